-- Every run of two ends keeps what they know of one another's windows.
use Rattle.std.proofs.Common.{◌≡◌, ℕ, ◌+◌, ◌%◌, ◌<◌, ◌≤◌, ◌^◌, ◌==◌, ◌&&◌, ◌⊎◌, inl, inr, Bool, true, false, if◌then◌else◌, List, ◌∷◌, ◌++◌, Some, length, length-append, arith, refl, sym, ◌∙◌, ap, subst}
use Rattle.std.proofs.lemmas.Bool.{eqb-true}
use Rattle.clock.specs.declared.moment.Moment.{Moment}
use Rattle.ipv4.specs.declared.addr.Endpoint.{Endpoint}
use Rattle.tcp_segment.specs.Segment.{Segment}
use Rattle.tcp_halves.specs.Halves.{Room, Sending, Receiving}
use Rattle.tcp_halves.specs.Stream.{outstanding}
use Rattle.tcp_halves.specs.Windows.{syn_window}
use Rattle.tcp_halves.proofs.Choices.{either, by, clash, and_left, neither}
use Rattle.tcp_state.specs.declared.connection.Fate.{Fate}
use Rattle.tcp_state.specs.declared.connection.Fate.TheVariants.{Stays, Removed, Rejected}
use Rattle.tcp_state.specs.declared.emission.Due.{Due}
use Rattle.tcp_state.specs.declared.emission.Due.TheVariants.{Rst, Syn, Text, Probe, Ack, KeepAlive}
use Rattle.tcp_state.specs.declared.state.State.{State}
use Rattle.tcp_state.specs.declared.state.State.TheVariants.{Closed, SynSent, SynReceived}
use Rattle.tcp_state.specs.View.{View, IsSound, is_opening, is_closed, is_syn_sent, is_syn_received, opened_actively}
use Rattle.tcp_state.specs.Arrival.{opened_passively, after_simultaneous_syn, after_segment, fate}
use Rattle.tcp_state.specs.Due.{first_due, flags_of, after_emitted}
use Rattle.tcp_state.specs.Edges.{after_event, after_first, Emits}
use Rattle.tcp_state.specs.Said.{segment_of}
use Rattle.tcp_state.proofs.GoesOut.{due-may}
use Rattle.tcp_state.proofs.PeerSizes.{scale_stays}
use Rattle.tcp_state.proofs.Segments.{opened_by_syn_ack}
use Rattle.tcp_state.proofs.StillStreams.{emissions_leave}
use Rattle.stream_law.specs.Channel.{IsAmong, number_of}
use Rattle.stream_law.specs.Pairing.{Presence, Absent, Present, Departed, Emission, Pairing, apart, from_other, IsTimely, with_connection, remains, Move, connects, accepts, takes, closes, gives, ends, rests, emits, hears, resets, stops, leaves, Meets, begins, here_moves, there_moves}
use Rattle.stream_law.proofs.PairingInvariant.{Shown, shown-from_other}
use Rattle.stream_law.proofs.PairingLaw.{shown}
use Rattle.stream_law.proofs.Sizes.{most_held}
use Rattle.window_law.specs.Windows.{IsAgreed, KeepsWindows, Rests, Talk, connects as calls, accepts as answers, sends, hears as listens, rests as quiet, Talks, begins as at_first, here_talks, there_talks}
use Rattle.window_law.proofs.Meeting.{Stands, stands}
use Rattle.window_law.proofs.Heard.{heard, heard_received, heard_sent}
use Rattle.window_law.proofs.Knowing.{Knows, Earlier, leaves as leaves_by, one_of, sends_into, sends_from, sends_first, rests_into, rests_from, waiting_opens}
use Rattle.window_law.proofs.Openings.{TellsFirst, waits_alone, connects_into, connects_from, accepts_into, accepts_from, crosses_into, answers_into, syn_taken_from}
use Rattle.window_law.proofs.Sent.{opening_syn}
use Rattle.window_law.proofs.Scaled.{Scales, Offers, offers, same_units, scales_stay, scales_settle}
use Rattle.window_law.proofs.Hearing.{hears_into, hears_from, confirms_into, confirms_from}

-- What a move at one end leaves of the other, and of what was written.
record Frame (p q : Pairing) : Type 0 where
  other : q.other ≡ p.other
  received : q.received ≡ p.received
  written : length p.own.written ≤ length q.own.written

same : (n : ℕ) → n ≤ n
same n = omega arith

more : (written octets : List ℕ) → length written ≤ length (written ++ octets)
more written octets = let both = length-append written octets in omega (arith, both)

frame : (limit : ℕ) (p q : Pairing) → Move limit p q → Frame p q
frame limit _ _ (connects p room local peer isn now none fits) = record { other = refl; received = refl; written = same (length p.own.written) }
frame limit _ _ (accepts p room local peer isn e now none fits among timely syn) = record { other = refl; received = refl; written = same (length p.own.written) }
frame limit _ _ (takes p v octets now is sound untold opened unclosed) = record { other = refl; received = refl; written = more p.own.written _ }
frame limit _ _ (closes p v now is sound opened) = record { other = refl; received = refl; written = same (length p.own.written) }
frame limit _ _ (gives p v len is sound untold kept opened) = record { other = refl; received = refl; written = same (length p.own.written) }
frame limit _ _ (ends p v len is kept told) = record { other = refl; received = refl; written = same (length p.own.written) }
frame limit _ _ (rests p v w is still) = record { other = refl; received = refl; written = same (length p.own.written) }
frame limit _ _ (emits p v due now is sound may unreset width) = record { other = refl; received = refl; written = same (length p.own.written) }
frame limit _ _ (hears p v e is sound among timely) = record { other = refl; received = refl; written = same (length p.own.written) }
frame limit _ _ (resets p v s is rst) = record { other = refl; received = refl; written = same (length p.own.written) }
frame limit _ _ (stops p v w closed is over keeps) = record { other = refl; received = refl; written = same (length p.own.written) }
frame limit _ _ (leaves p v closed is keeps) = record { other = refl; received = refl; written = same (length p.own.written) }

-- .. and it leaves something
remains_some : (f : Fate) (x : View) → remains f x ≡ Absent → ⊥
remains_some Stays x e = let bad : Present x ≡ Absent = e in cc
remains_some Rejected x e = let bad : Present x ≡ Absent = e in cc
remains_some Removed x e = let bad : Departed ≡ Absent = e in cc

never_absent : (limit : ℕ) (p q : Pairing) → Move limit p q → q.own.connection ≡ Absent → ⊥
never_absent limit _ _ (connects p room local peer isn now none fits) e = cc
never_absent limit _ _ (accepts p room local peer isn f now none fits among timely syn) e = cc
never_absent limit _ _ (takes p v octets now is sound untold opened unclosed) e = cc
never_absent limit _ _ (closes p v now is sound opened) e = cc
never_absent limit _ _ (gives p v len is sound untold kept opened) e = cc
never_absent limit _ _ (ends p v len is kept told) e = let bad : Present v ≡ Absent = sym is ∙ e in cc
never_absent limit _ _ (rests p v w is still) e = cc
never_absent limit _ _ (emits p v due now is sound may unreset width) e = cc
never_absent limit _ _ (hears p v f is sound among timely) e = remains_some (fate v f.segment) (after_segment v f.segment) e
never_absent limit _ _ (resets p v s is rst) e = remains_some (fate v s) (after_segment v s) e
never_absent limit _ _ (stops p v w closed is over keeps) e = cc
never_absent limit _ _ (leaves p v closed is keeps) e = cc

-- a connection that is there is one
it_is : (x y : View) → Present x ≡ Present y → x ≡ y
it_is x y e = cc

left : (f : Fate) (x y : View) → remains f x ≡ Present y → x ≡ y
left Stays x y e = it_is x y e
left Rejected x y e = it_is x y e
left Removed x y e = let bad : Departed ≡ Present y = e in cc

-- What holds of two ends: of the window that the other told, and of what both SYNs say of units.
pub record Into (limit : ℕ) (p : Pairing) : Type 0 where
  pub known : (v w : View) → p.own.connection ≡ Present v → p.other.connection ≡ Present w → is_closed v.state ≡ false → is_closed w.state ≡ false → Knows limit p v w
  pub first : (w : View) → p.other.connection ≡ Present w → is_closed w.state ≡ false → TellsFirst p w

pub record Inv (limit : ℕ) (p : Pairing) : Type 0 where
  pub ours : Bool
  pub theirs : Bool
  pub own_scales : (v : View) → p.own.connection ≡ Present v → is_closed v.state ≡ false → Scales ours theirs v
  pub other_scales : (w : View) → p.other.connection ≡ Present w → is_closed w.state ≡ false → Scales theirs ours w
  pub own_offers : (e : Emission) → IsAmong e p.sent → e.segment.flags.syn ≡ true → Offers ours theirs p.other.connection e.segment
  pub other_offers : (e : Emission) → IsAmong e p.received → e.segment.flags.syn ≡ true → Offers theirs ours p.own.connection e.segment
  pub into : Into limit p
  pub from : Into limit (from_other p)

turned : (limit : ℕ) (p : Pairing) → Inv limit p → Inv limit (from_other p)
turned limit p i = record { ours = i.theirs; theirs = i.ours; own_scales = i.other_scales; other_scales = i.own_scales; own_offers = i.other_offers; other_offers = i.own_offers; into = i.from; from = i.into }

none_yet : (v : View) → Absent ≡ Present v → ⊥
none_yet v e = cc

start : (limit : ℕ) → Inv limit apart
start limit = record {
  ours = false;
  theirs = false;
  own_scales = λ v is. absurd (none_yet v is);
  other_scales = λ w is. absurd (none_yet w is);
  own_offers = λ e among. elim among [ ];
  other_offers = λ e among. elim among [ ];
  into = record { known = λ v w is. absurd (none_yet v is); first = λ w is. absurd (none_yet w is) };
  from = record { known = λ v w is. absurd (none_yet v is); first = λ w is. absurd (none_yet w is) };
}

-- a SYN goes out of an opening alone, and nothing that goes out settles whether windows are scaled
closed_opens_not : (t : State) → is_closed t ≡ true → is_opening t ≡ true → ⊥
closed_opens_not Closed c o = cc
closed_opens_not _ c o = cc

closed_sends_none : (v : View) (due : Due) → first_due v ≡ Some due → (let f = flags_of v due in f.syn) ≡ true → is_closed v.state ≡ true → ⊥
closed_sends_none v Rst first syn closed = cc
closed_sends_none v Syn first syn closed = closed_opens_not v.state closed (opening_syn v first)
closed_sends_none v (Text stretch) first syn closed = cc
closed_sends_none v Probe first syn closed = cc
closed_sends_none v Ack first syn closed = cc
closed_sends_none v KeepAlive first syn closed = cc

emitted_scales : (v : View) (due : Due) (now : Moment) → first_due v ≡ Some due → (let x = after_emitted v due now in x.scales) ≡ v.scales
emitted_scales v due now first = subst (λ o. (let x = after_first v o now in x.scales) ≡ v.scales) first
    (scale_stays v (Emits now) (by ((is_syn_sent v.state ≡ false) ⊎ (is_syn_sent (after_event v (Emits now)).state ≡ true)) (is_syn_sent v.state) (λ waits. inr (ap is_syn_sent (emissions_leave v now).2 ∙ waits)) (λ on. inl on)))

-- The other end's connection, and what it offers, stay.
other_end : (p q : Pairing) → q.other ≡ p.other → (w : View) → q.other.connection ≡ Present w → p.other.connection ≡ Present w
other_end p q same w is = subst (λ o. o.connection ≡ Present w) same is

there_still : (x : View) (c d : Presence) (ours theirs : Bool) (s : Segment) → d ≡ Present x → Offers theirs ours c s → Offers theirs ours d s
there_still x c d ours theirs s is o = record {
  offer = o.offer;
  told = o.told;
  how = elim o.how [ inl plain ↦ inl plain | inr both_so ↦ inr (both_so.0, λ none. let bad : Present x ≡ Absent = sym is ∙ none in cc) ];
}

-- A connection is new at the own end.
newly : (c d : Presence) (ours new theirs : Bool) (s : Segment) → c ≡ Absent → Offers theirs ours c s → Offers theirs new d s
newly c d ours new theirs s none o = record { offer = o.offer; told = o.told; how = elim o.how [ inl plain ↦ inl plain | inr both_so ↦ absurd (both_so.1 none) ] }

new_scales : (limit : ℕ) (p : Pairing) (new : Bool) → Stands limit p → p.own.connection ≡ Absent → (i : Inv limit p) → (w : View) → p.other.connection ≡ Present w → is_closed w.state ≡ false → Scales i.theirs new w
new_scales limit p new s none i w is living =
    let k = i.other_scales w is living in
    record { unit = k.unit; waiting = k.waiting; settled = λ on. absurd (waits_alone limit p w s none is living on) }

step_calls : (limit : ℕ) (p : Pairing) (room : Room) (local peer : Endpoint) (isn : ℕ) (now : Moment) → Stands limit p → p.own.connection ≡ Absent → Inv limit p → Inv limit (with_connection p (opened_actively room local peer isn now))
step_calls limit p room local peer isn now s none i =
    let v = opened_actively room local peer isn now in
    let q = with_connection p v in
    record {
      ours = room.manner.scales;
      theirs = i.theirs;
      own_scales = λ x is lives. subst (λ (y : View). Scales room.manner.scales i.theirs y) (it_is v x is) (record { unit = refl; waiting = λ waits. refl; settled = λ on. cc });
      other_scales = new_scales limit p room.manner.scales s none i;
      own_offers = λ e among syn. absurd (s.silent none e among);
      other_offers = λ e among syn. newly p.own.connection (Present v) i.ours room.manner.scales i.theirs e.segment none (i.other_offers e among syn);
      into = record {
        known = λ x w own other lives living. subst (λ y. Knows limit q y w) (it_is v x own) (connects_into limit p q v w s none other living refl);
        first = λ w other living. i.into.first w other living;
      };
      from = record {
        known = λ w x other own living lives. subst (λ y. Knows limit (from_other q) w y) (it_is v x own) (connects_from limit p (from_other q) v w s none other living refl);
        first = λ x own lives waits e among syn. absurd (s.silent none e among);
      };
    }

step_answers : (limit : ℕ) (p : Pairing) (room : Room) (local peer : Endpoint) (isn : ℕ) (e : Emission) (now : Moment) → Stands limit p → p.own.connection ≡ Absent → IsAmong e p.received → e.segment.flags.syn ≡ true → Inv limit p
    → Inv limit (with_connection p (opened_passively room local peer isn e.segment now))
step_answers limit p room local peer isn e now s none among syn i =
    let v = opened_passively room local peer isn e.segment now in
    let q = with_connection p v in
    record {
      ours = room.manner.scales;
      theirs = i.theirs;
      own_scales = λ x is lives. subst (λ (y : View). Scales room.manner.scales i.theirs y) (it_is v x is)
          (scales_settle room.manner.scales i.theirs room.manner.scales (Present v) e.segment v refl (newly p.own.connection (Present v) i.ours room.manner.scales i.theirs e.segment none (i.other_offers e among syn)) refl refl refl refl);
      other_scales = new_scales limit p room.manner.scales s none i;
      own_offers = λ f of flag. absurd (s.silent none f of);
      other_offers = λ f of flag. newly p.own.connection (Present v) i.ours room.manner.scales i.theirs f.segment none (i.other_offers f of flag);
      into = record {
        known = λ x w own other lives living. subst (λ y. Knows limit q y w) (it_is v x own) (accepts_into limit p q v w e s none other living among syn (i.into.first w other living) refl);
        first = λ w other living. i.into.first w other living;
      };
      from = record {
        known = λ w x other own living lives. subst (λ y. Knows limit (from_other q) w y) (it_is v x own) (accepts_from limit p (from_other q) v w s none other living refl refl);
        first = λ x own lives waits. subst (λ (y : View). is_syn_sent y.state ≡ true → (f : Emission) → IsAmong f p.sent → f.segment.flags.syn ≡ true → f.segment.window ≤ syn_window y.receiving) (it_is v x own) (λ still. cc) waits;
      };
    }

step_sends : (limit : ℕ) (p : Pairing) (v : View) (due : Due) (now : Moment) → Stands limit p → Stands limit (from_other p) → p.own.connection ≡ Present v → IsSound v → first_due v ≡ Some due → (let f = flags_of v due in f.rst) ≡ false → (e : Emission) → e.segment ≡ segment_of v due
    → Inv limit p → Inv limit (record (with_connection p (after_emitted v due now)) { sent = e ∷ p.sent })
step_sends limit p v due now s back is sound first unreset e it i =
    let x = after_emitted v due now in
    let q : Pairing = record (with_connection p x) { sent = e ∷ p.sent } in
    let l = leaves_by v due now first in
    let was : (y : View) → is_closed y.state ≡ false → x ≡ y → is_closed v.state ≡ false = λ y lives at. ap is_closed (sym l.state) ∙ ap (λ (z : View). is_closed z.state) at ∙ lives in
    let lives_or : is_closed v.state ≡ false → Scales i.ours i.theirs v = i.own_scales v is in
    let earlier : Earlier limit p q = λ f soon. record { own = soon.own; other = soon.other } in
    let before : Earlier limit (from_other p) (from_other q) = λ f soon. record { own = soon.own; other = soon.other } in
    let scales : x.scales ≡ v.scales = emitted_scales v due now first in
    record {
      ours = i.ours;
      theirs = i.theirs;
      own_scales = λ y at lives. subst (λ (z : View). Scales i.ours i.theirs z) (it_is x y at)
          (scales_stay i.ours i.theirs v x (ap (λ (r : Receiving). r.unit) l.receiving) (ap (λ (t : Sending). t.unit) l.sending) scales (ap is_syn_sent l.state) (lives_or (was y lives (it_is x y at))));
      other_scales = i.other_scales;
      own_offers = λ f of syn. elim (one_of f e p.sent of) [
        | inl new ↦
            let ours_is : f.segment ≡ segment_of v due = ap (λ (g : Emission). g.segment) new ∙ it in
            subst (λ g. Offers i.ours i.theirs p.other.connection g) (sym ours_is) (offers i.ours i.theirs p.other.connection v due (lives_or (living_syn (sym (ap (λ (g : Segment). g.flags.syn) ours_is) ∙ syn))) (there (living_syn (sym (ap (λ (g : Segment). g.flags.syn) ours_is) ∙ syn))) (sym (ap (λ (g : Segment). g.flags.syn) ours_is) ∙ syn))
        | inr old ↦ i.own_offers f old syn
      ];
      other_offers = λ f of syn. there_still x p.own.connection (Present x) i.ours i.theirs f.segment refl (i.other_offers f of syn);
      into = record {
        known = λ y w own other lives living. subst (λ z. Knows limit q z w) (it_is x y own) (sends_into limit p q v w due now sound first unreset refl earlier (i.into.known v w is other (was y lives (it_is x y own)) living));
        first = λ w other living. i.into.first w other living;
      };
      from = record {
        known = λ w y other own living lives. subst (λ z. Knows limit (from_other q) w z) (it_is x y own)
            (sends_from limit (from_other p) (from_other q) v w due now e sound first unreset it refl before (i.from.known w v other is living (was y lives (it_is x y own))));
        first = λ y own lives waits f of syn.
            let at = it_is x y own in
            let waited : is_syn_sent v.state ≡ true = ap is_syn_sent (sym l.state) ∙ ap (λ (z : View). is_syn_sent z.state) at ∙ waits in
            subst (λ (z : View). f.segment.window ≤ syn_window z.receiving) at (elim (one_of f e p.sent of) [
              | inl new ↦
                  let ours_is : f.segment ≡ segment_of v due = ap (λ (g : Emission). g.segment) new ∙ it in
                  subst (λ g. g.window ≤ syn_window x.receiving) (sym ours_is) (sends_first v due now sound first waited (sym (ap (λ (g : Segment). g.flags.syn) ours_is) ∙ syn))
              | inr old ↦
                  let told = i.from.first v is (was y lives at) waited f old syn in
                  let same : syn_window x.receiving ≡ syn_window v.receiving = ap syn_window l.receiving in
                  omega (arith, told, same)
            ]);
      };
    }
  where
    living_syn : (let f = flags_of v due in f.syn) ≡ true → is_closed v.state ≡ false
    living_syn syn = by (is_closed v.state ≡ false) (is_closed v.state) (λ closed. absurd (closed_sends_none v due first syn closed)) (λ lives. lives)

    there : is_closed v.state ≡ false → is_syn_sent v.state ≡ false → p.other.connection ≡ Absent → ⊥
    there lives on none =
        let n = back.absent none in
        let r = ((back.other v is lives).synchronised on).1 in
        omega (arith, n, r, back.sent)

-- a segment changes nothing
unchanged : (v : View) → KeepsWindows v v
unchanged v = record { sending = refl; receiving = refl; read = same (length v.receiving.readable); scales = refl; opening = refl; waiting = refl }

-- What the own end's connection becomes, where it lives, and what both ends then know.
record Comes (limit : ℕ) (p q : Pairing) (ours theirs : Bool) (x : View) : Type 0 where
  scales : Scales ours theirs x
  into : (w : View) → p.other.connection ≡ Present w → is_closed w.state ≡ false → Knows limit q x w
  from : (w : View) → p.other.connection ≡ Present w → is_closed w.state ≡ false → Knows limit (from_other q) w x
  first : TellsFirst (from_other p) x

step_rests : (limit : ℕ) (p q : Pairing) → Move limit p q → Rests p q → Inv limit p → Inv limit q
step_rests limit p q move k i =
    let f = frame limit p q move in
    let earlier : Earlier limit p q = λ e soon.
    let own = soon.own in
    let grown = f.written in
    record { own = omega (arith, own, grown); other = subst (λ o. length o.written < e.own_written + limit) f.other soon.other } in
    let before : Earlier limit (from_other p) (from_other q) = λ e soon.
    let there = soon.other in
    let grown = f.written in
    record { own = subst (λ o. length o.written < e.other_written + limit) f.other soon.own; other = omega (arith, there, grown) } in
    let there = other_end p q f.other in
    record {
      ours = i.ours;
      theirs = i.theirs;
      own_scales = λ x is lives.
          let was = k.keeps x is lives in
          let s = was.3 in
          scales_stay i.ours i.theirs was.0 x (ap (λ (r : Receiving). r.unit) s.receiving) (ap (λ (t : Sending). t.unit) s.sending) s.scales s.waiting (i.own_scales was.0 was.1 was.2);
      other_scales = λ w is living. i.other_scales w (there w is) living;
      own_offers = λ e among syn. subst (λ o. Offers i.ours i.theirs o.connection e.segment) (sym f.other) (i.own_offers e (subst (λ es. IsAmong e es) k.sent among) syn);
      other_offers = λ e among syn.
          let o = i.other_offers e (subst (λ es. IsAmong e es) f.received among) syn in
          record { offer = o.offer; told = o.told; how = elim o.how [ inl plain ↦ inl plain | inr both_so ↦ inr (both_so.0, never_absent limit p q move) ] };
      into = record {
        known = λ x w own other lives living. let was = k.keeps x own lives in rests_into limit p q was.0 w x was.3 f.received earlier (i.into.known was.0 w was.1 (there w other) was.2 living);
        first = λ w other living waits e among syn. i.into.first w (there w other) living waits e (subst (λ es. IsAmong e es) f.received among) syn;
      };
      from = record {
        known = λ w x other own living lives. let was = k.keeps x own lives in rests_from limit (from_other p) (from_other q) was.0 w x was.3 k.sent before (i.from.known w was.0 (there w other) was.1 living was.2);
        first = λ x own lives waits e among syn.
            let was = k.keeps x own lives in
            let s = was.3 in
            let told = i.from.first was.0 was.1 was.2 (sym s.waiting ∙ waits) e (subst (λ es. IsAmong e es) k.sent among) syn in
            let size : x.receiving.size ≡ was.0.receiving.size = ap (λ (r : Receiving). r.size) s.receiving in
            let read = s.read in
            omega (arith, told, size, read);
      };
    }

received_of : (t : State) → is_opening t ≡ true → is_syn_sent t ≡ false → is_syn_received t ≡ true
received_of SynSent o e = cc
received_of SynReceived o e = refl
received_of _ o e = cc

pub not_waiting : (t : State) → is_opening t ≡ false → is_syn_sent t ≡ false
not_waiting t opened = by (is_syn_sent t ≡ false) (is_syn_sent t) (λ waits. clash (is_opening t) (waiting_opens t waits) opened) (λ so. so)

-- A segment comes.
comes : (limit : ℕ) (p q : Pairing) (v : View) (e : Emission) → Stands limit p → Stands limit (from_other p) → Stands limit (from_other q) → p.own.connection ≡ Present v → IsSound v → is_closed v.state ≡ false → IsAmong e p.received → IsTimely limit p e → e.segment.acknowledgement < 2 ^ 32 → (i : Inv limit p)
    → is_closed (after_segment v e.segment).state ≡ false → q.own.connection ≡ Present (after_segment v e.segment) → q.other ≡ p.other → q.sent ≡ p.sent → q.received ≡ p.received → Earlier limit p q → Earlier limit (from_other p) (from_other q)
    → Comes limit p q i.ours i.theirs (after_segment v e.segment)
comes limit p q v e s back t is sound lives among timely width i alive now_there other_same sent_same received_same earlier before =
    let g = e.segment in
    let x = after_segment v g in
    let scales = i.own_scales v is lives in
    let C : View → Type 0 = Comes limit p q i.ours i.theirs in
    by (C x) (is_syn_sent v.state)
    (λ waits.
    let first = i.from.first v is lives waits in
    let taken : (y : View) → x ≡ y → (y ≡ after_simultaneous_syn v g) ⊎ (y ≡ opened_by_syn_ack v g) → (advertised : ℕ) → g.flags.syn ≡ true → is_syn_sent y.state ≡ false → y.receiving.rnext ≡ (g.number + 1) % 2 ^ 32 → y.receiving.edge ≡ (y.receiving.rnext + advertised) % 2 ^ 32 → advertised < 2 ^ 32
    → (0 < outstanding v.sending → advertised ≡ syn_window v.receiving) → Scales i.ours i.theirs y → ((w : View) → p.other.connection ≡ Present w → is_closed w.state ≡ false → Knows limit q y w) → C y =
    λ y at kind advertised syn on rnext edge small whole settled into. record {
      scales = settled;
      into = into;
      from = λ w other living. syn_taken_from limit p (from_other q) v w y g.number advertised s back t is other lives living waits on (subst (λ o. o.connection ≡ Present w) (sym other_same) other) (subst (λ z. q.own.connection ≡ Present z) at now_there)
          (ap (λ (z : View). is_closed z.state) (sym at) ∙ alive) rnext edge small whole sound sent_same before first (i.from.known w v other is living lives);
      first = λ still. clash (is_syn_sent y.state) still on;
    } in
    elim (heard_sent v g waits alive) [
      | inl still ↦ subst C (sym still) (record {
        scales = scales;
        into = λ w other living. rests_into limit p q v w v (unchanged v) received_same earlier (i.into.known v w is other lives living);
        from = λ w other living. rests_from limit (from_other p) (from_other q) v w v (unchanged v) sent_same before (i.from.known w v other is living lives);
        first = λ so. first;
      })
      | inr takes_it ↦ elim takes_it [
        | inl crossed ↦
            let y = after_simultaneous_syn v g in
            let advertised : ℕ = if outstanding v.sending == 0 then 0 else syn_window v.receiving in
            subst C (sym crossed.0) (taken y crossed.0 (inl refl) advertised crossed.1 refl refl refl
            (either ℕ (λ n. n < 2 ^ 32) (outstanding v.sending == 0) 0 (syn_window v.receiving) (λ none. omega arith) (λ some. omega arith))
            (λ some. either ℕ (λ n. n ≡ syn_window v.receiving) (outstanding v.sending == 0) 0 (syn_window v.receiving) (λ none. let zero = eqb-true (outstanding v.sending) 0 none in absurd (omega (arith, zero, some))) (λ more. refl))
            (scales_settle i.ours i.theirs v.scales p.own.connection g y (scales.waiting waits) (i.other_offers e among crossed.1) refl refl refl refl)
            (λ w other living. crosses_into limit p q v w e s is other lives living waits among crossed.1 (i.into.first w other living) received_same earlier (i.into.known v w is other lives living)))
        | inr right ↦
            let y = opened_by_syn_ack v g in
            let syn = and_left g.flags.syn g.flags.ack (and_left (g.flags.syn && g.flags.ack) _ right.1) in
            subst C (sym right.0) (taken y right.0 (inr refl) (syn_window v.receiving) syn refl refl refl (omega arith) (λ some. refl)
            (scales_settle i.ours i.theirs v.scales p.own.connection g y (scales.waiting waits) (i.other_offers e among syn) refl refl refl refl)
            (λ w other living. answers_into limit p q v w e s other living sound waits among timely right.1 received_same earlier (i.into.known v w is other lives living)))
      ]
    ])
    (λ on.
    let units : (w : View) → p.other.connection ≡ Present w → is_closed w.state ≡ false → is_syn_sent w.state ≡ false → v.sending.unit ≡ w.receiving.unit = λ w other living there_on. same_units i.ours i.theirs v w scales (i.other_scales w other living) on there_on in
    by (C x) (is_opening v.state)
    (λ opening.
    let h = heard_received v g sound (received_of v.state opening on) alive in
    let peer : x.sending.unit ≡ v.sending.unit = elim h.how [ inl still ↦ ap (λ (y : Sending). y.unit) still.0 | inr establishes ↦ establishes.unit ] in
    record {
      scales = scales_stay i.ours i.theirs v x h.unit peer h.scales (h.synchronised ∙ sym on) scales;
      into = λ w other living. confirms_into limit p q v w x e s is other lives living opening on among timely sound (units w other living) h width received_same earlier (i.into.known v w is other lives living);
      from = λ w other living. confirms_from limit p (from_other q) v w x e s back is other lives living on among timely sound h sent_same before (i.from.known w v other is living lives);
      first = λ waits. clash (is_syn_sent x.state) waits h.synchronised;
    })
    (λ opened.
    let h = heard v g sound opened alive in
    let past_it : is_syn_sent x.state ≡ false = by (is_syn_sent x.state ≡ false) (is_syn_sent x.state) (λ waits. clash (is_opening x.state) (waiting_opens x.state waits) h.opened) (λ so. so) in
    let peer : x.sending.unit ≡ v.sending.unit = elim h.sending [ inl tells ↦ tells.unit | inr still ↦ ap (λ (y : Sending). y.unit) still ] in
    record {
      scales = scales_stay i.ours i.theirs v x h.unit peer h.scales (past_it ∙ sym on) scales;
      into = λ w other living. hears_into limit p q v w x e s is other lives living opened on past_it among timely sound (units w other living) h received_same earlier (i.into.known v w is other lives living);
      from = λ w other living. hears_from limit p (from_other q) v w x g s back is other lives living opened on past_it sound h sent_same before (i.from.known w v other is living lives);
      first = λ waits. clash (is_syn_sent x.state) waits past_it;
    }))

was_alive : (v : View) (s : Segment) → is_closed (after_segment v s).state ≡ false → is_closed v.state ≡ false
was_alive v s lives =
    let dead : is_closed v.state ≡ true → after_segment v s ≡ v = λ closed. either View (λ x. x ≡ v) (is_closed v.state) v _ (λ so. refl) (λ alive. clash (is_closed v.state) closed alive) in
    by (is_closed v.state ≡ false) (is_closed v.state)
    (λ closed. clash (is_closed v.state) closed (ap (λ (x : View). is_closed x.state) (sym (dead closed)) ∙ lives))
    (λ alive. alive)

-- what is left of it
step_hears : (limit : ℕ) (p : Pairing) (v : View) (e : Emission) → (let q : Pairing = record p { own = record p.own { connection = remains (fate v e.segment) (after_segment v e.segment) } } in Stands limit p → Stands limit (from_other p) → Stands limit (from_other q)
    → p.own.connection ≡ Present v → IsSound v → IsAmong e p.received → IsTimely limit p e → e.segment.acknowledgement < 2 ^ 32 → Inv limit p → Inv limit q)
step_hears limit p v e s back t is sound among timely width i =
    let x = after_segment v e.segment in
    let q : Pairing = record p { own = record p.own { connection = remains (fate v e.segment) x } } in
    let earlier : Earlier limit p q = λ f soon. record { own = soon.own; other = soon.other } in
    let before : Earlier limit (from_other p) (from_other q) = λ f soon. record { own = soon.own; other = soon.other } in
    let it : (y : View) → q.own.connection ≡ Present y → x ≡ y = λ y at. left (fate v e.segment) x y at in
    let alive : (y : View) → q.own.connection ≡ Present y → is_closed y.state ≡ false → is_closed x.state ≡ false = λ y at lives. ap (λ (z : View). is_closed z.state) (it y at) ∙ lives in
    let all : (y : View) → q.own.connection ≡ Present y → is_closed y.state ≡ false → Comes limit p q i.ours i.theirs y = λ y at lives.
    let so = alive y at lives in
    subst (λ z. Comes limit p q i.ours i.theirs z) (it y at)
    (comes limit p q v e s back t is sound (was_alive v e.segment so) among timely width i so (at ∙ ap Present (sym (it y at))) refl refl refl earlier before) in
    record {
      ours = i.ours;
      theirs = i.theirs;
      own_scales = λ y at lives. let c = all y at lives in c.scales;
      other_scales = i.other_scales;
      own_offers = i.own_offers;
      other_offers = λ f of syn.
          let o = i.other_offers f of syn in
          record { offer = o.offer; told = o.told; how = elim o.how [ inl plain ↦ inl plain | inr both_so ↦ inr (both_so.0, remains_some (fate v e.segment) x) ] };
      into = record { known = λ y w at other lives living. let c = all y at lives in c.into w other living; first = λ w other living. i.into.first w other living };
      from = record { known = λ w y other at living lives. let c = all y at lives in c.from w other living; first = λ y at lives. let c = all y at lives in c.first };
    }

-- What talks meets.
moves_by : (limit : ℕ) (p q : Pairing) → Talk limit p q → Move limit p q
moves_by limit _ _ (calls p room local peer isn now none fits) = connects p room local peer isn now none fits
moves_by limit _ _ (answers p room local peer isn e now none fits among timely syn) = accepts p room local peer isn e now none fits among timely syn
moves_by limit _ _ (sends p v due now is sound first unreset width) = emits p v due now is sound (due-may v due sound first) unreset width
moves_by limit _ _ (listens p v e is sound among timely) = hears p v e is sound among timely
moves_by limit _ _ (quiet p q move k) = move

pub meets : (limit : ℕ) (p : Pairing) → Talks limit p → Meets limit p
meets limit _ at_first = begins
meets limit _ (here_talks p q talks talk) = here_moves p q (meets limit p talks) (moves_by limit p q talk)
meets limit _ (there_talks p q talks talk) = there_moves p q (meets limit p talks) (moves_by limit (from_other p) q talk)

-- one event at the own end
step : (limit : ℕ) → limit ≤ 2 ^ 30 → (p q : Pairing) → Shown most_held limit p → Shown most_held limit q → Talk limit p q → Inv limit p → Inv limit q
step limit small _ _ h after (calls p room local peer isn now none fits) i = step_calls limit p room local peer isn now (stands limit small p h) none i
step limit small _ _ h after (answers p room local peer isn e now none fits among timely syn) i = step_answers limit p room local peer isn e now (stands limit small p h) none among syn i
step limit small _ _ h after (sends p v due now is sound first unreset width) i =
    let e : Emission = record { segment = segment_of v due; own_written = length p.own.written; other_written = length p.other.written } in
    step_sends limit p v due now (stands limit small p h) (stands limit small (from_other p) (shown-from_other most_held limit p h)) is sound first unreset e refl i
step limit small _ _ h after (listens p v e is sound among timely) i =
    let x = after_segment v e.segment in
    let q : Pairing = record p { own = record p.own { connection = remains (fate v e.segment) x } } in
    step_hears limit p v e (stands limit small p h) (stands limit small (from_other p) (shown-from_other most_held limit p h)) (stands limit small (from_other q) (shown-from_other most_held limit q after)) is sound among timely ((h.received e among).width.acknowledgement) i
step limit small p q h after (quiet _ _ move k) i = step_rests limit p q move k i

pub keeps : (limit : ℕ) → limit ≤ 2 ^ 30 → (p : Pairing) → Talks limit p → Inv limit p
keeps limit small _ at_first = start limit
keeps limit small _ (here_talks p q talks talk) = step limit small p q (shown limit p (meets limit p talks)) (shown limit q (meets limit q (here_talks p q talks talk))) talk (keeps limit small p talks)
keeps limit small _ (there_talks p q talks talk) =
    let h = shown-from_other most_held limit p (shown limit p (meets limit p talks)) in
    let after : Shown most_held limit q = shown-from_other most_held limit (from_other q) (shown limit (from_other q) (meets limit (from_other q) (there_talks p q talks talk))) in
    turned limit q (step limit small (from_other p) q h after talk (turned limit p (keeps limit small p talks)))

-- Where both are open, the one agrees with the other.
agreed : (limit : ℕ) (p : Pairing) → Inv limit p → IsAgreed limit p
agreed limit p i v w own other here there =
    let a = neither (is_opening v.state) (is_closed v.state) here in
    let b = neither (is_opening w.state) (is_closed w.state) there in
    let k = i.into.known v w own other a.1 b.1 in
    let on = not_waiting v.state a.0 in
    let there_on = not_waiting w.state b.0 in
    let first = k.window there_on on in
    let flag : number_of (is_opening v.state) ≡ 0 = ap number_of a.0 in
    record {
      unit = same_units i.ours i.theirs v w (i.own_scales v own a.1) (i.other_scales w other b.1) on there_on;
      window = omega (arith, first, flag);
      sent = k.sent there_on a.0;
      told = λ e among timely acks plain. k.told there_on e among timely acks plain;
    }

pub agrees : (limit : ℕ) → limit ≤ 2 ^ 30 → (p : Pairing) → Talks limit p → IsAgreed limit p × IsAgreed limit (from_other p)
agrees limit small p talks = let i = keeps limit small p talks in (agreed limit p i, agreed limit (from_other p) (turned limit p i))
