-- Two open ends that are left to themselves talk on.
use Rattle.std.proofs.Common.{◌≡◌, ℕ, ◌<◌, ◌≤◌, ◌^◌, ◌||◌, ◌&&◌, ◌⊎◌, inl, inr, not, Bool, true, false, List, [], ◌∷◌, ◌++◌, length, drop, if◌then◌else◌, Some, arith, refl, sym, ◌∙◌, ap, subst}
use Rattle.std.proofs.lemmas.List.{length-take}
use Rattle.clock.specs.declared.moment.Moment.{Moment}
use Rattle.tcp_segment.specs.Segment.{Segment}
use Rattle.tcp_halves.proofs.Choices.{either, by, clash, and_left, and_right, neither}
use Rattle.tcp_state.specs.declared.connection.Fate.{Fate}
use Rattle.tcp_state.specs.declared.connection.Fate.TheVariants.{Stays, Removed, Rejected}
use Rattle.tcp_state.specs.declared.emission.Due.{Due}
use Rattle.tcp_state.specs.declared.emission.Due.TheVariants.{Rst, Syn, Text, Probe, Ack, KeepAlive}
use Rattle.tcp_state.specs.declared.emission.Stretch.{Stretch}
use Rattle.tcp_state.specs.View.{View, IsSound, is_opening, is_syn_sent, is_syn_received, is_closed, is_over}
use Rattle.tcp_state.specs.Arrival.{is_lost, is_rejected, after_lost, after_segment, after_heard, before, timed_by, after_segment_at, ends_by_reset, ends_by_syn, ends_opening, fate}
use Rattle.tcp_state.specs.Due.{IsHeld, first_due, flags_of, octets_of_stretch, after_emitted, probe_stretch}
use Rattle.tcp_state.specs.Said.{segment_of}
use Rattle.tcp_state.proofs.AckNumbers.{bare_fits}
use Rattle.tcp_state.proofs.Clocked.{comes_to}
use Rattle.tcp_state.proofs.GoesOut.{due-may}
use Rattle.tcp_state.proofs.Losses.{past_opening}
use Rattle.tcp_state.proofs.Segments.{not_rejected}
use Rattle.stream_law.specs.Channel.{IsAmong, here, there}
use Rattle.stream_law.specs.ChannelViews.{IsOfWidth, SameStream}
use Rattle.stream_law.specs.Pairing.{Present, Emission, Pairing, from_other, IsTimely, with_connection, remains, rests as stays_on}
use Rattle.window_law.specs.Windows.{IsOpen, KeepsWindows, Rests, sends, hears, rests, Talks, begins, here_talks, there_talks}
use Rattle.window_law.proofs.Heard.{heard}
use Rattle.window_law.proofs.Knowing.{leaves}
use Rattle.silence_law.specs.Silence.{Link, turned}
use Rattle.silence_law.proofs.Emitting.{IsPlain, plainly}

-- What two ends may come to they may as the other sees it.
pub talks_from_other : (limit : ℕ) (p : Pairing) → Talks limit p → Talks limit (from_other p)
talks_from_other limit _ begins = begins
talks_from_other limit _ (here_talks p q talks talk) = there_talks (from_other p) q (talks_from_other limit p talks) talk
talks_from_other limit _ (there_talks p q talks talk) = here_talks (from_other p) q (talks_from_other limit p talks) talk

-- a segment is on its way to the own end, and no SYN or RST
pub record OnWay (limit : ℕ) (p : Pairing) (s : Segment) : Type 0 where
  pub e : Emission
  pub among : IsAmong e p.received
  pub timely : IsTimely limit p e
  pub is : e.segment ≡ s
  pub plain : IsPlain s

-- a link of two open ends, and how they came there
pub record Together (limit : ℕ) (l : Link) : Type 0 where
  pub p : Pairing
  pub talks : Talks limit p
  pub own : p.own.connection ≡ Present l.near
  pub other : p.other.connection ≡ Present l.far
  pub near_open : IsOpen l.near
  pub far_open : IsOpen l.far
  pub to_near : (s : Segment) → IsAmong s l.to_near → OnWay limit p s
  pub to_far : (s : Segment) → IsAmong s l.to_far → OnWay limit (from_other p) s

pub together_turned : (limit : ℕ) (l : Link) → Together limit l → Together limit (turned l)
together_turned limit l t = record {
  p = from_other t.p;
  talks = talks_from_other limit t.p t.talks;
  own = t.other;
  other = t.own;
  near_open = t.far_open;
  far_open = t.near_open;
  to_near = t.to_far;
  to_far = t.to_near;
}

-- What is due goes out.

among_behind : (t s : Segment) (way : List Segment) → IsAmong t (way ++ (s ∷ [])) → IsAmong t way ⊎ (t ≡ s)
among_behind t s [] among = elim (first t s [] among) [ inl same ↦ inr same | inr more ↦ inl more ]
  where
    first : (t s : Segment) (rest : List Segment) → IsAmong t (s ∷ rest) → (t ≡ s) ⊎ IsAmong t rest
    first _ s rest (here _ _) = inl refl
    first _ s rest (there _ _ _ among) = inr among
among_behind t s (x ∷ way) among = elim (first t x (way ++ (s ∷ [])) among) [
  | inl same ↦ inl (subst (λ u. IsAmong u (x ∷ way)) (sym same) (here x way))
  | inr more ↦ elim (among_behind t s way more) [ inl old ↦ inl (there t x way old) | inr new ↦ inr new ]
]
  where
    first : (t s : Segment) (rest : List Segment) → IsAmong t (s ∷ rest) → (t ≡ s) ⊎ IsAmong t rest
    first _ s rest (here _ _) = inl refl
    first _ s rest (there _ _ _ among) = inr among

few_octets : (v : View) (stretch : Stretch) → IsHeld v stretch → length (octets_of_stretch v stretch) < 2 ^ 16
few_octets v stretch held = let size = held.size in omega (arith, length-take stretch.count (drop stretch.offset v.sending.held), size)

width : (v : View) (due : Due) → IsSound v → is_closed v.state ≡ false → is_opening v.state ≡ false → first_due v ≡ Some due → IsOfWidth (segment_of v due)
width v Rst sound lives opened first = let plain = plainly v Rst sound lives opened first in let bad : true ≡ false = plain.no_rst in cc
width v Syn sound lives opened first = let plain = plainly v Syn sound lives opened first in let bad : true ≡ false = plain.no_syn in cc
width v (Text stretch) sound lives opened first = record { number = omega arith; acknowledgement = sound.rnext; octets = few_octets v stretch (due-may v (Text stretch) sound first) }
width v Probe sound lives opened first = record { number = sound.una; acknowledgement = sound.rnext; octets = few_octets v (probe_stretch v) (due-may v Probe sound first) }
width v Ack sound lives opened first = record { number = bare_fits v sound; acknowledgement = sound.rnext; octets = omega arith }
width v KeepAlive sound lives opened first = record { number = omega arith; acknowledgement = sound.rnext; octets = omega arith }

pub unreset : (v : View) (due : Due) → IsPlain (segment_of v due) → (let f = flags_of v due in f.rst) ≡ false
unreset v due plain = plain.no_rst

pub sends_on : (limit : ℕ) (l : Link) (due : Due) (now : Moment) → 0 < limit → IsSound l.near → first_due l.near ≡ Some due → Together limit l
    → Together limit (record l { near = after_emitted l.near due now; to_far = l.to_far ++ (segment_of l.near due ∷ []) })
sends_on limit l due now some sound first t =
    let v = l.near in
    let p = t.p in
    let s = segment_of v due in
    let x = after_emitted v due now in
    let o = neither (is_opening v.state) (is_closed v.state) t.near_open in
    let plain = plainly v due sound o.1 o.0 first in
    let e : Emission = record { segment = s; own_written = length p.own.written; other_written = length p.other.written } in
    let q : Pairing = record (with_connection p x) { sent = e ∷ p.sent } in
    let state = (leaves v due now first).state in
    record {
      p = q;
      talks = here_talks p q t.talks (sends p v due now t.own sound first (unreset v due plain) (width v due sound o.1 o.0 first));
      own = refl;
      other = t.other;
      near_open = ap (λ u. is_opening u || is_closed u) state ∙ t.near_open;
      far_open = t.far_open;
      to_near = λ g among. let k = t.to_near g among in record { e = k.e; among = k.among; timely = record { own = k.timely.own; other = k.timely.other }; is = k.is; plain = k.plain };
      to_far = λ g among. elim (among_behind g s l.to_far among) [
        | inl old ↦ let k = t.to_far g old in record { e = k.e; among = there k.e e p.sent k.among; timely = record { own = k.timely.own; other = k.timely.other }; is = k.is; plain = k.plain }
        | inr new ↦ record { e = e; among = here e p.sent; timely = record { own = omega (arith, some); other = omega (arith, some) }; is = sym new; plain = subst IsPlain (sym new) plain }
      ];
    }

-- A segment comes, and the end stays open.

-- then no octets of it are lost
pub comes_open : (v : View) (s : Segment) (now : Moment) → is_closed v.state ≡ false → is_opening v.state ≡ false → is_closed (after_segment_at v s now).state ≡ false
    → (after_segment_at v s now ≡ timed_by (before v s) (after_segment v s) now) × (is_lost v s ≡ false) × (is_closed (after_segment v s).state ≡ false)
comes_open v s now living opened lives =
    let gone = past_opening v.state opened in
    let b = before v s in
    let at = comes_to v s now living (not_rejected v s gone.0 gone.1) in
    let alive : is_closed (after_heard v s).state ≡ false = sym (ap (λ (w : View). is_closed w.state) at) ∙ lives in
    let kept : is_lost v s ≡ false = by (is_lost v s ≡ false) (is_lost v s)
    (λ lost. let bad : true ≡ false = sym (ap (λ t. is_closed (if t then after_lost v s else after_segment v s).state) lost) ∙ alive in cc)
    (λ kept. kept) in
    let same : after_heard v s ≡ after_segment v s = ap (λ t. if t then after_lost v s else after_segment v s) kept in
    (at ∙ ap (λ w. timed_by b w now) same, kept, sym (ap (λ (w : View). is_closed w.state) same) ∙ alive)

stays_there : (v : View) (s : Segment) → is_opening v.state ≡ false → is_closed (after_segment v s).state ≡ false → remains (fate v s) (after_segment v s) ≡ Present (after_segment v s)
stays_there v s opened lives =
    let z = after_segment v s in
    let P : Fate → Type 0 = λ f. remains f z ≡ Present z in
    let gone = past_opening v.state opened in
    either Fate P (is_closed v.state || is_lost v s) Stays _ (λ still. refl)
    (λ heard_so. either Fate P (is_over z) Removed _ (λ over. clash (is_closed z.state) (and_left (is_closed z.state) z.released (and_left (is_closed z.state && z.released) (not z.owes_reset) over)) lives)
    (λ not_over. either Fate P (is_rejected v s) Rejected _ (λ rejected. refl)
    (λ taken. either Fate P (ends_opening v s) Removed Stays
    (λ ends. clash (is_syn_received v.state) (received (and_right (not (is_syn_sent v.state)) (if s.flags.rst then ends_by_reset v s else ends_by_syn v s) ends)) gone.1)
    (λ stays. refl))))
  where
    received : (if s.flags.rst then ends_by_reset v s else ends_by_syn v s) ≡ true → is_syn_received v.state ≡ true
    received = either Bool (λ b. b ≡ true → is_syn_received v.state ≡ true) s.flags.rst (ends_by_reset v s) (ends_by_syn v s) (λ rst e. and_right _ (is_syn_received v.state) e) (λ none e. and_right _ (is_syn_received v.state) e)

it_is : (x y : View) → Present x ≡ Present y → x ≡ y
it_is x y e = cc

same : (n : ℕ) → n ≤ n
same n = omega arith

pub hears_on : (limit : ℕ) (l : Link) (s : Segment) (rest : List Segment) (now : Moment) → IsSound l.near → l.to_near ≡ s ∷ rest → (let w = after_segment_at l.near s now in is_closed w.state ≡ false → Together limit l → Together limit (record l { near = w; to_near = rest }))
hears_on limit l s rest now sound first lives t =
    let v = l.near in
    let p = t.p in
    let o = neither (is_opening v.state) (is_closed v.state) t.near_open in
    let k = t.to_near s (subst (λ way. IsAmong s way) (sym first) (here s rest)) in
    let z = after_segment v s in
    let w = after_segment_at v s now in
    let c = comes_open v s now o.1 o.0 lives in
    let opened : is_opening w.state ≡ false = ap (λ (u : View). is_opening u.state) c.0 ∙ (heard v s sound o.0 c.2).opened in
    let q : Pairing = record p { own = record p.own { connection = remains (fate v k.e.segment) (after_segment v k.e.segment) } } in
    let q_own : q.own.connection ≡ Present z = ap (λ g. remains (fate v g) (after_segment v g)) k.is ∙ stays_there v s o.0 c.2 in
    let r = with_connection q w in
    let stream : SameStream z w = subst (λ u. SameStream z u) (sym c.0) (record { state = refl; held = refl; una = refl; nxt = refl; readable = refl; kept = refl; rnext = refl; pending_error = refl; released = λ so. so }) in
    let windows : KeepsWindows z w = subst (λ u. KeepsWindows z u) (sym c.0) (record { sending = refl; receiving = refl; read = same (length z.receiving.readable); scales = refl; opening = refl; waiting = refl }) in
    let still : Rests q r = record { sent = refl; keeps = λ u is alive. (z, q_own, c.2, subst (λ (y : View). KeepsWindows z y) (it_is w u is) windows) } in
    record {
      p = r;
      talks = here_talks q r (here_talks p q t.talks (hears p v k.e t.own sound k.among k.timely)) (rests q r (stays_on q z w q_own stream) still);
      own = refl;
      other = t.other;
      near_open = ap (λ b. b || is_closed w.state) opened ∙ lives;
      far_open = t.far_open;
      to_near = λ g among.
          let n = t.to_near g (subst (λ way. IsAmong g way) (sym first) (there g s rest among)) in
          record { e = n.e; among = n.among; timely = record { own = n.timely.own; other = n.timely.other }; is = n.is; plain = n.plain };
      to_far = λ g among. let n = t.to_far g among in record { e = n.e; among = n.among; timely = record { own = n.timely.own; other = n.timely.other }; is = n.is; plain = n.plain };
    }
