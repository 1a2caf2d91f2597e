-- What the sending half of a connection that lives keeps of what was taken and acknowledged, and what each event makes of that.
use Rattle.std.proofs.Common.{◌≡◌, ◌⊎◌, ℕ, zero, suc, max, ◌∷◌, ◌+◌, ◌-◌, ◌<◌, ◌≤◌, ◌==◌, ◌||◌, ◌&&◌, not, nat_lt, if◌then◌else◌, Bool, true, false, List, [], ◌++◌, length, drop, take, is_some, inl, inr, refl, sym, ◌∙◌, ap, subst, arith, length-append, length-drop, append-nil}
use Rattle.std.proofs.lemmas.Bool.{ltb-true, ltb-false, leb-true, eqb-true}
use Rattle.std.proofs.lemmas.List.{nil_from_length, drop-append-le}
use Rattle.std.proofs.Math.Seq.{drop-nil}
use Rattle.clock.specs.declared.moment.Moment.{Moment}
use Rattle.tcp_segment.specs.Segment.{Segment}
use Rattle.tcp_segment.specs.Wire.{past}
use Rattle.tcp_halves.specs.Halves.{Sending}
use Rattle.tcp_halves.specs.Stream.{outstanding, is_new_ack, is_in_window}
use Rattle.tcp_halves.specs.Windows.{window_in, updates_window}
use Rattle.tcp_halves.proofs.Choices.{either, clash, and_left, and_right, neither, or_left, or_right}
use Rattle.tcp_state.specs.declared.state.State.{State}
use Rattle.tcp_state.specs.declared.state.State.TheVariants.{SynSent, SynReceived, Established, FinWait1, FinWait2, CloseWait, Closing, LastAck}
use Rattle.tcp_state.specs.View.{View, IsSound, is_opening, is_syn_sent, is_syn_received, is_closed, is_write_finished, is_write_closed, awaits_fin_ack, after_reset}
use Rattle.tcp_state.specs.Arrival.{owing_ack, reset_error, after_rst_in_syn_sent, after_rst, is_right_syn_ack, after_syn_ack, is_simultaneous_syn, after_simultaneous_syn, is_acceptable_to, ends_by_syn, is_acting_reset, ends_by_reset, after_establishment, is_of_fin, beyond_fin, fin_acknowledged, after_new_ack, after_ack, is_off, is_read_on, is_receiving, after_window, after_text, beyond_end, after_fin, after_acknowledging_segment, after_acceptable_segment, after_segment, is_lost, after_lost, after_heard, before, timed_by, after_segment_at}
use Rattle.tcp_state.specs.Timing.{clocked}
use Rattle.tcp_state.specs.Alive.{after_silence}
use Rattle.tcp_state.specs.Calls.{send_count, with_octets, after_send, after_recv, beyond_shutdown, after_shutdown, aborted_at, after_release, is_removed_by_close, is_aborted_by_close, after_close}
use Rattle.tcp_state.specs.Due.{first_due}
use Rattle.tcp_state.specs.Edges.{Event, after_first, after_event}
use Rattle.tcp_state.proofs.Clocked.{timers_keep}
use Rattle.tcp_state.proofs.Events.{holding, by_event}
use Rattle.tcp_state.proofs.StillStreams.{emissions_leave}
use Rattle.tcp_state.proofs.Segments.{opened_by_syn_ack, after_reading, by_fin, by_clock}
use Rattle.sockets.specs.declared.entry.SocketId.{SocketId}
use Rattle.host.specs.ConfigView.{ConfigView}
use Rattle.host_law.specs.Coming.{IsHeard, IsNewAck, MayBeUsed, MeetsSyn}
use Rattle.host_law.specs.History.{Step}
use Rattle.host_law.proofs.Befalls.{IsQuiet, Quietly, stays, moves}

-- what is held, by the position of SND.UNA and what was taken
pub record Holds (held : List ℕ) (una : ℕ) (sent : List ℕ) : Type 0 where
  pub is : held ≡ drop (una - 1) sent
  pub some : 1 ≤ una
  pub all : una + length held ≡ length sent + 1

-- While the connection opens nothing was taken, nor was our SYN acknowledged. Then what is held is what was taken from the position of SND.UNA on; and once our FIN is acknowledged, SND.UNA stands behind that.
pub record Stands (v : View) (una : ℕ) (sent : List ℕ) : Type 0 where
  pub opening : is_opening v.state ≡ true → (una ≡ 0) × (sent ≡ [])
  pub going : is_opening v.state ≡ false → is_write_finished v.state ≡ false → Holds v.sending.held una sent
  pub finished : is_opening v.state ≡ false → is_write_finished v.state ≡ true → una ≡ length sent + 2

-- Of the sending half nothing changed.

pub record Alike (v w : View) : Type 0 where
  pub held : w.sending.held ≡ v.sending.held
  pub una : w.sending.una ≡ v.sending.una
  pub opening : is_opening w.state ≡ is_opening v.state
  pub finished : is_write_finished w.state ≡ is_write_finished v.state
  pub ended : is_closed w.state ≡ is_closed v.state

pub same_sending : (v w : View) → w.sending.held ≡ v.sending.held → w.sending.una ≡ v.sending.una → w.state ≡ v.state → Alike v w
same_sending v w held una state = record { held = held; una = una; opening = ap is_opening state; finished = ap is_write_finished state; ended = ap is_closed state }

alike_stands : (v w : View) (una : ℕ) (sent : List ℕ) → Alike v w → Stands v una sent → Stands w una sent
alike_stands v w una sent alike was = record {
  opening = λ opening. was.opening (sym alike.opening ∙ opening);
  going = λ opened unfinished. subst (λ l. Holds l una sent) (sym alike.held) (was.going (sym alike.opening ∙ opened) (sym alike.finished ∙ unfinished));
  finished = λ opened finished. was.finished (sym alike.opening ∙ opened) (sym alike.finished ∙ finished);
}

-- what an event makes of it that takes these octets
pub record Makes (v w : View) (more : List ℕ) : Type 0 where
  pub lives : is_closed v.state ≡ false
  pub stands : (una : ℕ) (sent : List ℕ) → Stands v una sent → Stands w (una + past w.sending.una v.sending.una) (sent ++ more)

still : (v w : View) → IsSound v → Alike v w → past w.sending.una v.sending.una ≡ 0
still v w sound alike = let una = sound.una in let same = alike.una in omega (arith, una, same)

leaves : (v w : View) → IsSound v → Alike v w → is_closed w.state ≡ false → Makes v w []
leaves v w sound alike lives = record {
  lives = sym alike.ended ∙ lives;
  stands = λ una sent was.
      let none = still v w sound alike in
      let same : una ≡ una + past w.sending.una v.sending.una = omega (arith, none) in
      subst (λ n. Stands w n (sent ++ [])) same (subst (λ l. Stands w una l) (sym (append-nil sent)) (alike_stands v w una sent alike was));
}

-- .. and that moves SND.UNA nowhere
pub record Goes (v w : View) (more : List ℕ) : Type 0 where
  pub makes : Makes v w more
  pub still : past w.sending.una v.sending.una ≡ 0

goes_on : (v w : View) → IsSound v → Alike v w → is_closed w.state ≡ false → Goes v w []
goes_on v w sound alike lives = record { makes = leaves v w sound alike lives; still = still v w sound alike }

-- Octets are taken.

holds_more : (held : List ℕ) (una : ℕ) (sent more : List ℕ) → Holds held una sent → Holds (held ++ more) una (sent ++ more)
holds_more held una sent more was =
    let all = was.all in
    let some = was.some in
    let within : una - 1 ≤ length sent = omega (arith, all, some) in
    record {
      is = ap (λ l. l ++ more) was.is ∙ sym (drop-append-le (una - 1) sent more within);
      some = some;
      all = omega (arith, all, length-append held more, length-append sent more);
    }

takes : (v w : View) (more : List ℕ) → IsSound v → is_opening v.state ≡ false → is_write_closed v.state ≡ false → w.state ≡ v.state → w.sending.una ≡ v.sending.una → w.sending.held ≡ v.sending.held ++ more
    → is_closed w.state ≡ false → Goes v w more
takes v w more sound opened unclosed state una held lives =
    let bound = sound.una in
    let unfinished = (neither (awaits_fin_ack v.state) (is_write_finished v.state) unclosed).1 in
    let none : past w.sending.una v.sending.una ≡ 0 = omega (arith, bound, una) in
    record {
      makes = record {
        lives = sym (ap is_closed state) ∙ lives;
        stands = λ position sent was.
            let same : position ≡ position + past w.sending.una v.sending.una = omega (arith, none) in
            subst (λ n. Stands w n (sent ++ more)) same (record {
              opening = λ opening. clash (is_opening v.state) (sym (ap is_opening state) ∙ opening) opened;
              going = λ o u. subst (λ l. Holds l position (sent ++ more)) (sym held) (holds_more v.sending.held position sent more (was.going opened unfinished));
              finished = λ o finished. clash (is_write_finished v.state) (sym (ap is_write_finished state) ∙ finished) unfinished;
            });
      };
      still = none;
    }

-- A segment comes.

-- it acknowledges new numbers: it is used, or it is the SYN that acknowledges ours
pub record Confirms (v : View) (s : Segment) : Type 0 where
  pub ack : s.flags.ack ≡ true
  pub no_rst : s.flags.rst ≡ false
  pub used : MayBeUsed v s ⊎ ((is_syn_sent v.state ≡ true) × (s.flags.syn ≡ true))
  pub sent : past s.acknowledgement v.sending.una ≤ outstanding v.sending

pub record Heard (v : View) (s : Segment) (w : View) : Type 0 where
  pub makes : Makes v w []
  pub confirms : (past w.sending.una v.sending.una ≡ 0) ⊎ (Confirms v s × (past w.sending.una v.sending.una ≤ past s.acknowledgement v.sending.una))
  pub shut : is_write_closed w.state ≡ true → is_write_closed v.state ≡ true

-- what becomes of it, if it lives on
abbrev pub Hears : View → Segment → View → Type 0
Hears v s w = is_closed w.state ≡ false → Heard v s w

leaves_heard : (v w : View) (s : Segment) → IsSound v → Alike v w → is_write_closed w.state ≡ is_write_closed v.state → Hears v s w
leaves_heard v w s sound alike same lives = record { makes = leaves v w sound alike lives; confirms = inl (still v w sound alike); shut = λ shut. sym same ∙ shut }

then_heard : (v x w : View) (s : Segment) → Alike x w → is_write_closed w.state ≡ is_write_closed x.state → Hears v s x → Hears v s w
then_heard v x w s alike same was lives =
    let h = was (sym alike.ended ∙ lives) in
    let una = sym alike.una in
    record {
      makes = record {
        lives = h.makes.lives;
        stands = λ position sent stood.
            subst (λ n. Stands w (position + past n v.sending.una) (sent ++ [])) una (alike_stands x w (position + past x.sending.una v.sending.una) (sent ++ []) alike (h.makes.stands position sent stood));
      };
      confirms = subst (λ n. (past n v.sending.una ≡ 0) ⊎ (Confirms v s × (past n v.sending.una ≤ past s.acknowledgement v.sending.una))) una h.confirms;
      shut = λ shut. h.shut (sym same ∙ shut);
    }

-- a new acknowledgement reaches past SND.UNA, and not past what is outstanding
pub new_reaches : (s : Sending) (ack : ℕ) → is_new_ack s ack ≡ true → (0 < past ack s.una) × (past ack s.una ≤ outstanding s)
new_reaches s ack new = (
  ltb-true 0 (past ack s.una) (and_left (nat_lt 0 (past ack s.una)) _ new),
  leb-true (past ack s.una) (outstanding s) (and_right (nat_lt 0 (past ack s.una)) _ new),
)

none_while : (none : Bool) (n size : ℕ) → none ≡ true → n ≤ (if none then 0 else size) → n ≤ 0
none_while true n size e few = few
none_while false n size e few = cc

-- nothing is held while the connection opens
pub opening_holds : (v : View) → IsSound v → is_opening v.state ≡ true → length v.sending.held ≤ 0
opening_holds v sound opening = none_while (is_opening v.state || is_write_finished v.state) (length v.sending.held) v.sending.size (or_left (is_opening v.state) (is_write_finished v.state) opening) sound.held

-- .. and once our FIN is acknowledged
pub finished_holds : (v : View) → IsSound v → is_write_finished v.state ≡ true → length v.sending.held ≤ 0
finished_holds v sound finished = none_while (is_opening v.state || is_write_finished v.state) (length v.sending.held) v.sending.size (or_right (is_opening v.state) (is_write_finished v.state) finished) sound.held

-- in its opening at most the SYN is outstanding, and past it no more than is held and the FIN of a closed side
pub opening_flight : (v : View) → IsSound v → is_opening v.state ≡ true → outstanding v.sending ≤ 1
opening_flight v sound opening =
    let none = opening_holds v sound opening in
    let most : outstanding v.sending ≤ length v.sending.held + 1 = subst (λ b. outstanding v.sending ≤ length v.sending.held + (if b || awaits_fin_ack v.state then 1 else 0)) opening sound.flight in
    omega (arith, none, most)

opened_flight : (v : View) → IsSound v → is_opening v.state ≡ false → outstanding v.sending ≤ length v.sending.held + (if awaits_fin_ack v.state then 1 else 0)
opened_flight v sound opened = subst (λ b. outstanding v.sending ≤ length v.sending.held + (if b || awaits_fin_ack v.state then 1 else 0)) opened sound.flight

-- an acknowledgement that isn't of our FIN reaches no further than what is held
within_held : (waits : Bool) (held reach flight : ℕ) → flight ≤ held + (if waits then 1 else 0) → reach ≤ flight → (waits && nat_lt held reach) ≡ false → reach ≤ held
within_held true held reach flight most sent e = ltb-false held reach e
within_held false held reach flight most sent e = omega (arith, most, sent)

-- .. and one that is of it one number further
past_held : (waits : Bool) (held reach flight : ℕ) → flight ≤ held + (if waits then 1 else 0) → reach ≤ flight → (waits && nat_lt held reach) ≡ true → (waits ≡ true) × (reach ≡ held + 1)
past_held true held reach flight most sent e = (refl, (let far = ltb-true held reach e in omega (arith, most, sent, far)))
past_held false held reach flight most sent e = cc

-- our SYN is acknowledged
holds_first : (held : List ℕ) (una reach : ℕ) (sent : List ℕ) → length held ≤ 0 → una ≡ 0 → reach ≡ 1 → sent ≡ [] → Holds held (una + reach) (sent ++ [])
holds_first held una reach sent none first one empty =
    let length_none : length (sent ++ []) ≡ 0 = ap (λ l. length (l ++ [])) empty in
    record {
      is = nil_from_length held (omega (arith, none)) ∙ sym (ap (λ l. drop (una + reach - 1) (l ++ [])) empty ∙ drop-nil (una + reach - 1));
      some = omega (arith, one);
      all = omega (arith, none, first, one, length_none);
    }

opens : (v w : View) (s : Segment) → IsSound v → is_closed v.state ≡ false → is_opening v.state ≡ true → is_new_ack v.sending s.acknowledgement ≡ true → Confirms v s → w.state ≡ Established → w.sending.held ≡ v.sending.held → w.sending.una ≡ v.sending.nxt
    → Heard v s w
opens v w s sound lives opening new confirms state held una =
    let flight = opening_flight v sound opening in
    let reaches = new_reaches v.sending s.acknowledgement new in
    let same : past w.sending.una v.sending.una ≡ outstanding v.sending = ap (λ n. past n v.sending.una) una in
    let one : past w.sending.una v.sending.una ≡ 1 = omega (arith, flight, reaches.0, reaches.1, same) in
    let none = opening_holds v sound opening in
    record {
      makes = record {
        lives = lives;
        stands = λ position sent was. let first = was.opening opening in record {
          opening = λ e. let bad : false ≡ true = sym (ap is_opening state) ∙ e in cc;
          going = λ o u. subst (λ l. Holds l (position + past w.sending.una v.sending.una) (sent ++ [])) (sym held) (holds_first v.sending.held position (past w.sending.una v.sending.una) sent none first.0 one first.1);
          finished = λ o e. let bad : false ≡ true = sym (ap is_write_finished state) ∙ e in cc;
        };
      };
      confirms = inr (confirms, omega (arith, one, reaches.0));
      shut = λ e. let bad : false ≡ true = sym (ap is_write_closed state) ∙ e in cc;
    }

-- octets are acknowledged
drop_more : (n m : ℕ) (l : List ℕ) → drop n (drop m l) ≡ drop (m + n) l
drop_more n zero l = let e : n ≡ 0 + n = omega arith in ap (λ k. drop k l) e
drop_more n (suc m) [] = drop-nil n ∙ sym (drop-nil (suc m + n))
drop_more n (suc m) (x ∷ l) = let e : suc (m + n) ≡ suc m + n = omega arith in drop_more n m l ∙ ap (λ k. drop k (x ∷ l)) e

holds_fewer : (held : List ℕ) (una reach : ℕ) (sent : List ℕ) → reach ≤ length held → Holds held una sent → Holds (drop reach held) (una + reach) (sent ++ [])
holds_fewer held una reach sent within was =
    let some = was.some in
    let all = was.all in
    let place : una - 1 + reach ≡ una + reach - 1 = omega (arith, some) in
    subst (λ l. Holds (drop reach held) (una + reach) l) (sym (append-nil sent)) (record {
      is = ap (drop reach) was.is ∙ drop_more reach (una - 1) sent ∙ ap (λ n. drop n sent) place;
      some = omega (arith, some);
      all = omega (arith, all, within, length-drop reach held);
    })

octets : (v : View) (s : Segment) → IsSound v → is_closed v.state ≡ false → is_opening v.state ≡ false → is_new_ack v.sending s.acknowledgement ≡ true → is_of_fin v s.acknowledgement ≡ false → Confirms v s
    → Heard v s (after_new_ack v s.acknowledgement)
octets v s sound lives opened new plain confirms =
    let reach = past s.acknowledgement v.sending.una in
    let reaches = new_reaches v.sending s.acknowledgement new in
    let within = within_held (awaits_fin_ack v.state) (length v.sending.held) reach (outstanding v.sending) (opened_flight v sound opened) reaches.1 plain in
    record {
      makes = record {
        lives = lives;
        stands = λ position sent was. record {
          opening = λ e. clash (is_opening v.state) e opened;
          going = λ o u. holds_fewer v.sending.held position reach sent within (was.going o u);
          finished = λ o finished. let none = finished_holds v sound finished in absurd (omega (arith, none, within, reaches.0));
        };
      };
      confirms = inr (confirms, omega arith);
      shut = λ shut. shut;
    }

-- .. with our FIN
pub fin_states : (t : State) → awaits_fin_ack t ≡ true → (is_write_finished t ≡ false) × (is_opening (beyond_fin t) ≡ false) × (is_write_finished (beyond_fin t) ≡ true)
fin_states FinWait1 e = (refl, refl, refl)
fin_states Closing e = (refl, refl, refl)
fin_states LastAck e = (refl, refl, refl)
fin_states _ e = cc

of_fin : (v : View) (s : Segment) → IsSound v → is_closed v.state ≡ false → is_opening v.state ≡ false → is_new_ack v.sending s.acknowledgement ≡ true → is_of_fin v s.acknowledgement ≡ true → Confirms v s
    → Heard v s (fin_acknowledged (after_new_ack v s.acknowledgement))
of_fin v s sound lives opened new fin confirms =
    let reach = past s.acknowledgement v.sending.una in
    let reaches = new_reaches v.sending s.acknowledgement new in
    let beyond = past_held (awaits_fin_ack v.state) (length v.sending.held) reach (outstanding v.sending) (opened_flight v sound opened) reaches.1 fin in
    let states = fin_states v.state beyond.0 in
    record {
      makes = record {
        lives = lives;
        stands = λ position sent was. record {
          opening = λ e. clash (is_opening (beyond_fin v.state)) e states.1;
          going = λ o u. clash (is_write_finished (beyond_fin v.state)) states.2 u;
          finished = λ o f. let all = (was.going opened states.0).all in let end = beyond.1 in omega (arith, all, end, length-append sent []);
        };
      };
      confirms = inr (confirms, omega arith);
      shut = λ shut. or_left (awaits_fin_ack v.state) (is_write_finished v.state) beyond.0;
    }

-- The field is read of a segment that is used.

pub opening_is : (t : State) → is_syn_received t ≡ true → is_opening t ≡ true
opening_is SynReceived e = refl
opening_is _ e = cc

opening_sent : (t : State) → is_syn_sent t ≡ true → (is_opening t ≡ true) × (is_write_finished t ≡ false) × (is_closed t ≡ false) × (is_write_closed t ≡ false)
opening_sent SynSent e = (refl, refl, refl, refl)
opening_sent _ e = cc

pub opened_is : (t : State) → is_syn_sent t ≡ false → is_syn_received t ≡ false → is_opening t ≡ false
opened_is SynSent e f = cc
opened_is SynReceived e f = cc
opened_is _ e f = refl

as_it_is : (v : View) → Alike v v
as_it_is v = same_sending v v refl refl refl

acks : (v : View) (s : Segment) → IsSound v → is_closed v.state ≡ false → MayBeUsed v s → Hears v s (after_ack v s.acknowledgement)
acks v s sound lives used =
    let ack = s.acknowledgement in
    let confirms : is_new_ack v.sending ack ≡ true → Confirms v s = λ new. record { ack = used.ack; no_rst = used.no_rst; used = inl used; sent = (new_reaches v.sending ack new).1 } in
    either View (λ w. Hears v s w) (is_syn_received v.state) _ _
    (λ received. either View (λ w. Hears v s w) (is_new_ack v.sending ack) (after_establishment v) v
    (λ new on. opens v (after_establishment v) s sound lives (opening_is v.state received) new (confirms new) refl refl refl)
    (λ old. leaves_heard v v s sound (as_it_is v) refl))
    (λ established. let opened = opened_is v.state used.synchronised established in
    either View (λ w. Hears v s w) (is_new_ack v.sending ack) _ _
    (λ new. either View (λ w. Hears v s w) (is_of_fin v ack) (fin_acknowledged (after_new_ack v ack)) (after_new_ack v ack)
    (λ fin on. of_fin v s sound lives opened new fin (confirms new)) (λ plain on. octets v s sound lives opened new plain (confirms new)))
    (λ old. either View (λ w. Hears v s w) (is_off v ack) (owing_ack v) v
    (λ beyond. leaves_heard v (owing_ack v) s sound (same_sending v (owing_ack v) refl refl refl) refl) (λ within. leaves_heard v v s sound (as_it_is v) refl)))

-- the rest of it, too
end_states : (t : State) → (is_opening (beyond_end t) ≡ is_opening t) × (is_write_finished (beyond_end t) ≡ is_write_finished t) × (is_closed (beyond_end t) ≡ is_closed t) × (is_write_closed (beyond_end t) ≡ is_write_closed t)
end_states Established = (refl, refl, refl, refl)
end_states FinWait1 = (refl, refl, refl, refl)
end_states FinWait2 = (refl, refl, refl, refl)
end_states _ = (refl, refl, refl, refl)

-- nothing changed of it, nor of what is closed on our side
abbrev Rests : View → View → Type 0
Rests x w = Alike x w × (is_write_closed w.state ≡ is_write_closed x.state)

windowed : (x : View) (s : Segment) → Rests x (after_window x s)
windowed x s =
    let told = updates_window x.sending s.number s.acknowledgement in
    let window = window_in x.sending s.window in
    let newer = record x.sending { window = window; max_window = max x.sending.max_window window; wl1 = s.number; wl2 = s.acknowledgement } in (
      record {
        held = either Sending (λ t. t.held ≡ x.sending.held) told newer x.sending (λ new. refl) (λ old. refl);
        una = either Sending (λ t. t.una ≡ x.sending.una) told newer x.sending (λ new. refl) (λ old. refl);
        opening = refl;
        finished = refl;
        ended = refl;
      },
      refl,
    )

texted : (x : View) (s : Segment) → Rests x (after_text x s)
texted x s = either View (Rests x) ((length s.octets == 0) || not (is_receiving x.state)) x _ (λ none. (as_it_is x, refl)) (λ some. (same_sending x _ refl refl refl, refl))

finned : (x : View) (s : Segment) → Rests x (after_fin x s)
finned x s =
    let states = end_states x.state in
    by_fin (Rests x) x s (λ counts. (record { held = refl; una = refl; opening = states.0; finished = states.1; ended = states.2 }, states.3)) (same_sending x (owing_ack x) refl refl refl, refl) (as_it_is x, refl)

reads_on : (v x : View) (s : Segment) → Hears v s x → Hears v s (after_fin (after_text (after_window x s) s) s)
reads_on v x s was =
    let told = after_window x s in
    let text = after_text told s in
    let first = windowed x s in
    let second = texted told s in
    let third = finned text s in
    then_heard v text (after_fin text s) s third.0 third.1 (then_heard v told text s second.0 second.1 (then_heard v x told s first.0 first.1 was))

-- In SYN-SENT the right SYN opens it, and one without ACK joins it.

crossing : (v : View) (s : Segment) → IsSound v → is_syn_sent v.state ≡ true → Hears v s (after_simultaneous_syn v s)
crossing v s sound waits =
    let states = opening_sent v.state waits in
    leaves_heard v (after_simultaneous_syn v s) s sound (record { held = refl; una = refl; opening = sym states.0; finished = sym states.1; ended = sym states.2 }) (sym states.3)

opening_up : (v : View) (s : Segment) → IsSound v → is_closed v.state ≡ false → s.flags.rst ≡ false → is_syn_sent v.state ≡ true → is_right_syn_ack v s ≡ true → Hears v s (opened_by_syn_ack v s)
opening_up v s sound lives no_rst waits right on =
    let flags = and_left (s.flags.syn && s.flags.ack) (is_new_ack v.sending s.acknowledgement) right in
    let new = and_right (s.flags.syn && s.flags.ack) (is_new_ack v.sending s.acknowledgement) right in
    opens v (opened_by_syn_ack v s) s sound lives (opening_sent v.state waits).0 new (record {
      ack = and_right s.flags.syn s.flags.ack flags;
      no_rst = no_rst;
      used = inr (waits, and_left s.flags.syn s.flags.ack flags);
      sent = (new_reaches v.sending s.acknowledgement new).1;
    }) refl refl refl

-- it is the SYN that SYN-SENT waits for
pub record Syns (v : View) (s : Segment) : Type 0 where
  pub waits : is_syn_sent v.state ≡ true
  pub no_rst : s.flags.rst ≡ false
  pub syn : s.flags.syn ≡ true
  pub new : s.flags.ack ≡ true → is_new_ack v.sending s.acknowledgement ≡ true

answers : (v : View) (s : Segment) → s.flags.rst ≡ false → is_syn_sent v.state ≡ true → is_right_syn_ack v s ≡ true → Syns v s
answers v s no_rst waits right = record {
  waits = waits;
  no_rst = no_rst;
  syn = and_left s.flags.syn s.flags.ack (and_left (s.flags.syn && s.flags.ack) (is_new_ack v.sending s.acknowledgement) right);
  new = λ ack. and_right (s.flags.syn && s.flags.ack) (is_new_ack v.sending s.acknowledgement) right;
}

crosses : (v : View) (s : Segment) → s.flags.rst ≡ false → is_syn_sent v.state ≡ true → is_simultaneous_syn v s ≡ true → Syns v s
crosses v s no_rst waits both = record {
  waits = waits;
  no_rst = no_rst;
  syn = and_left s.flags.syn (not s.flags.ack) both;
  new = λ ack. let none : not s.flags.ack ≡ false = ap not ack in clash (not s.flags.ack) (and_right s.flags.syn (not s.flags.ack) both) none;
}

pub new_ack : (v : View) (s : Segment) → is_new_ack v.sending s.acknowledgement ≡ true → IsNewAck v s
new_ack v s new = let reaches = new_reaches v.sending s.acknowledgement new in record { some = reaches.0; sent = reaches.1 }

pub meets_syn : {c : ConfigView} {id : SocketId} {v : View} {s : Segment} {step : Step} → IsHeard c id v s step → Syns v s → MeetsSyn c id v s step
meets_syn {c} {id} {v} {s} {step} heard syns = record { heard = heard; waits = syns.waits; no_rst = syns.no_rst; syn = syns.syn; acknowledges = λ ack. new_ack v s (syns.new ack) }

-- What a segment may make of a connection, past SYN-SENT by one that is used.
pub record EachSegment (P : View → Type 0) (v : View) (s : Segment) : Type 0 where
  pub dropped : P v
  pub drawn : P (owing_ack v)
  pub reset : P (after_reset v (reset_error v.state))
  pub crossed : Syns v s → P (after_simultaneous_syn v s)
  pub opened : is_closed v.state ≡ false → Syns v s → is_right_syn_ack v s ≡ true → P (opened_by_syn_ack v s)
  pub acknowledged : is_closed v.state ≡ false → MayBeUsed v s → P (after_ack v s.acknowledgement)
  pub read : is_closed v.state ≡ false → MayBeUsed v s → P (after_reading v s)

pub each_segment : (P : View → Type 0) (v : View) (s : Segment) → EachSegment P v s → P (after_segment v s)
each_segment P v s cases =
    let ended = after_reset v (reset_error v.state) in
    either View P (is_closed v.state) v _
    (λ closed. cases.dropped)
    (λ lives. either View P s.flags.rst _ _
    (λ rst. either View P (is_syn_sent v.state) (after_rst_in_syn_sent v s) (after_rst v s)
    (λ waits. either View P (s.flags.ack && is_new_ack v.sending s.acknowledgement) ended v (λ acts. cases.reset) (λ other. cases.dropped))
    (λ past_opening. either View P (is_acting_reset v s) _ _
    (λ acts. either View P (ends_by_reset v s) v ended (λ removed. cases.dropped) (λ stays. cases.reset))
    (λ elsewhere. either View P (is_in_window v.receiving s.number) (owing_ack v) v (λ within. cases.drawn) (λ outside. cases.dropped))))
    (λ no_rst. either View P (is_syn_sent v.state) _ _
    (λ waits. either View P (is_simultaneous_syn v s) (after_simultaneous_syn v s) (after_syn_ack v s) (λ both. cases.crossed (crosses v s no_rst waits both))
    (λ acknowledges. either View P (is_right_syn_ack v s) (opened_by_syn_ack v s) v (λ right. cases.opened lives (answers v s no_rst waits right) right) (λ wrong. cases.dropped)))
    (λ past_opening. either View P (is_acceptable_to v s) (after_acceptable_segment v s) (owing_ack v)
    (λ accepted. either View P s.flags.syn _ _
    (λ syn. either View P (ends_by_syn v s) v (owing_ack v) (λ removed. cases.dropped) (λ stays. cases.drawn))
    (λ no_syn. either View P s.flags.ack (after_acknowledging_segment v s) v
    (λ ack. let used : MayBeUsed v s = record { synchronised = past_opening; acceptable = accepted; ack = ack; no_rst = no_rst; no_syn = no_syn } in
    either View P (is_read_on v s.acknowledgement) (after_reading v s) (after_ack v s.acknowledgement) (λ on. cases.read lives used) (λ off. cases.acknowledged lives used))
    (λ no_ack. cases.dropped)))
    (λ unacceptable. cases.drawn))))

comes : (v : View) (s : Segment) → IsSound v → Hears v s (after_segment v s)
comes v s sound = each_segment (λ w. Hears v s w) v s (record {
  dropped = leaves_heard v v s sound (as_it_is v) refl;
  drawn = leaves_heard v (owing_ack v) s sound (same_sending v (owing_ack v) refl refl refl) refl;
  reset = λ on. cc;
  crossed = λ syns. crossing v s sound syns.waits;
  opened = λ lives syns right. opening_up v s sound lives syns.no_rst syns.waits right;
  acknowledged = acks v s sound;
  read = λ lives used. reads_on v (after_ack v s.acknowledgement) s (acks v s sound lives used);
})

heard : (v : View) (s : Segment) → IsSound v → Hears v s (after_heard v s)
heard v s sound = either View (λ w. Hears v s w) (is_lost v s) (after_lost v s) (after_segment v s) (λ lost on. cc) (λ kept. comes v s sound)

timed : (v : View) (s : Segment) (w : View) (now : Moment) → Hears v s w → Hears v s (timed_by (before v s) w now)
timed v s w now was = then_heard v w (timed_by (before v s) w now) s (same_sending w (timed_by (before v s) w now) refl refl refl) refl was

pub hears : (v : View) (s : Segment) (now : Moment) → IsSound v → Hears v s (after_segment_at v s now)
hears v s now sound =
    by_clock (λ w. Hears v s w) v s now (leaves_heard v v s sound (as_it_is v) refl) (λ lives. timed v s (after_heard v s) now (heard v s sound))

-- The other events.

-- the clock, a wish of the caller, an abort and an error leave it, or end the connection
pub record Still (v w : View) : Type 0 where
  pub sending : w.sending ≡ v.sending
  pub state : w.state ≡ v.state

quiet_event : (v : View) (e : Event) → IsQuiet e → is_closed (after_event v e).state ≡ false → Still v (after_event v e)
quiet_event v e = by_event (λ e w. IsQuiet e → is_closed w.state ≡ false → Still v w) v (record {
  same = λ e q on. record { sending = refl; state = refl };
  asks = λ e alive q on. record { sending = refl; state = refl };
  silent = λ now q on. record { sending = refl; state = refl };
  heard = λ s now lives q. absurd q;
  over = λ now ends q on. cc;
  given_up = λ now waits expired q on. cc;
  acts = λ now q on. let kept = timers_keep (after_silence v now) now in record { sending = ap (λ (w : View). w.sending) kept; state = ap (λ (w : View). w.state) kept };
  emits = λ now q. absurd q;
  sends = λ octets taken now opened q. absurd q;
  reads = λ len q. absurd q;
  shuts = λ now q. absurd q;
  delays = λ on now q lives. record { sending = refl; state = refl };
  leaves = λ now lives q. absurd q;
  aborts = λ e now at cause lives q on. cc;
  refused = λ number hit q on. cc;
  hopless = λ now over q on. cc;
}) e

pub quiet : (v w : View) → Quietly v w → is_closed w.state ≡ false → Still v w
quiet _ _ (stays v) on = record { sending = refl; state = refl }
quiet _ _ (moves v w e is rest) on =
    let behind = quiet (after_event v e) w rest on in
    let first = quiet_event v e is (sym (ap is_closed behind.state) ∙ on) in
    record { sending = behind.sending ∙ first.sending; state = behind.state ∙ first.state }

pub unchanged : (v w : View) → IsSound v → Still v w → is_closed w.state ≡ false → Goes v w []
unchanged v w sound same lives = goes_on v w sound (same_sending v w (ap (λ (s : Sending). s.held) same.sending) (ap (λ (s : Sending). s.una) same.sending) same.state) lives

-- of what goes out SND.NXT alone tells
pub emits : (v : View) (now : Moment) → IsSound v → (let w = after_first v (first_due v) now in is_closed w.state ≡ false → Goes v w [])
emits v now sound lives =
    let w = after_first v (first_due v) now in
    let left = emissions_leave v now in
    goes_on v w sound (same_sending v w (ap (λ (s : Sending). s.held) left.0) (ap (λ (s : Sending). s.una) left.0) left.2) lives

pub emitted_una : (v : View) (now : Moment) → (after_first v (first_due v) now).sending.una ≡ v.sending.una
emitted_una v now = let left = emissions_leave v now in ap (λ (s : Sending). s.una) left.0

-- the caller gives octets
pub sends : (v : View) (octets : List ℕ) (now : Moment) → IsSound v → (is_some v.pending_error || is_opening v.state || is_write_closed v.state) ≡ false
    → is_closed (after_send v octets now).state ≡ false → Goes v (after_send v octets now) (take (send_count v octets) octets)
sends v octets now sound takes_some =
    let more = take (send_count v octets) octets in
    let first = neither (is_some v.pending_error || is_opening v.state) (is_write_closed v.state) takes_some in
    let opened = (neither (is_some v.pending_error) (is_opening v.state) first.0).1 in
    let P : View → Type 0 = λ w. is_closed w.state ≡ false → Goes v w more in
    either View P (is_some v.pending_error || is_opening v.state || is_write_closed v.state) v (with_octets v more now)
    (λ refused. clash (is_some v.pending_error || is_opening v.state || is_write_closed v.state) refused takes_some)
    (λ taken. either View P (length more == 0) v (clocked false (holding v more) now)
    (λ none lives. takes v v more sound opened first.1 refl refl (sym (ap (λ l. v.sending.held ++ l) (nil_from_length more (eqb-true (length more) 0 none)) ∙ append-nil v.sending.held)) lives)
    (λ some lives. takes v (clocked false (holding v more) now) more sound opened first.1 refl refl refl lives))

pub sends_state : (v : View) (octets : List ℕ) (now : Moment) → (after_send v octets now).state ≡ v.state
sends_state v octets now =
    either View (λ w. w.state ≡ v.state) (is_some v.pending_error || is_opening v.state || is_write_closed v.state) v _ (λ refused. refl)
    (λ taken. either View (λ w. w.state ≡ v.state) (length (take (send_count v octets) octets) == 0) v _ (λ none. refl) (λ some. refl))

-- .. reads
pub receives : (v : View) (len : ℕ) → Still v (after_recv v len)
receives v len = either View (Still v) (is_some v.pending_error || is_opening v.state || (length v.receiving.readable == 0)) v _ (λ none. record { sending = refl; state = refl }) (λ some. record { sending = refl; state = refl })

-- .. closes our side
shut_states : (t : State) → (is_opening (beyond_shutdown t) ≡ is_opening t) × (is_write_finished (beyond_shutdown t) ≡ is_write_finished t) × (is_closed (beyond_shutdown t) ≡ is_closed t)
shut_states Established = (refl, refl, refl)
shut_states CloseWait = (refl, refl, refl)
shut_states _ = (refl, refl, refl)

pub shuts : (v : View) (now : Moment) → IsSound v → is_closed (after_shutdown v now).state ≡ false → Goes v (after_shutdown v now) []
shuts v now sound lives =
    let states = shut_states v.state in
    goes_on v (after_shutdown v now) sound (record { held = refl; una = refl; opening = states.0; finished = states.1; ended = states.2 }) lives

-- .. or the connection
pub closes : (v : View) (now : Moment) → IsSound v → is_closed (after_close v now).state ≡ false → Goes v (after_close v now) []
closes v now sound =
    let P : View → Type 0 = λ w. is_closed w.state ≡ false → Goes v w [] in
    let states = shut_states v.state in
    either View P (is_removed_by_close v) v _ (λ removed. goes_on v v sound (as_it_is v))
    (λ stays. either View P (is_aborted_by_close v) (aborted_at v now) (after_release v now) (λ aborted lives. cc)
    (λ released. goes_on v (after_release v now) sound (record { held = refl; una = refl; opening = states.0; finished = states.1; ended = states.2 })))
