-- Why a segment makes nothing readable and keeps nothing but its octets in the window, and all of them where it is read.
use Rattle.std.proofs.Common.{◌≡◌, ℕ, ◌-◌, ◌==◌, ◌||◌, ◌&&◌, ◌⊎◌, not, true, false, List, ◌++◌, length, get_or, take, drop, Option, None, inl, inr, arith, refl, sym, ◌∙◌, ap, subst}
use Rattle.std.proofs.lemmas.List.{length-take, length-drop}
use Rattle.std.proofs.lemmas.Bool.{eqb-true}
use Rattle.tcp_segment.specs.Segment.{Segment}
use Rattle.tcp_segment.specs.Wire.{past}
use Rattle.clock.specs.declared.moment.Moment.{Moment}
use Rattle.tcp_state.specs.declared.state.State.{State}
use Rattle.tcp_state.specs.declared.state.State.TheVariants.{Established, FinWait1, FinWait2}
use Rattle.tcp_halves.specs.Numbers.{is_before}
use Rattle.tcp_halves.specs.Halves.{Receiving}
use Rattle.tcp_halves.specs.Stream.{buffer_of, receive_window, distance_of, octets_within, octets_gained, after_octets}
use Rattle.tcp_state.specs.View.{View, IsSound, is_syn_sent, is_syn_received, is_closed}
use Rattle.tcp_state.specs.Arrival.{is_receiving, beyond_fin, after_ack, is_read, after_window, after_text, after_fin, after_segment, is_lost, after_lost, after_heard, is_rejected, before, timed_by, after_segment_at}
use Rattle.tcp_state.specs.Positions.{AreFree}
use Rattle.tcp_halves.proofs.Choices.{either, clash, and_left, or_else, not_true}
use Rattle.tcp_state.proofs.Segments.{after_reading, by_fin, by_ack, ack_receives, by_hearing, by_clock, read_tells, reads, not_rejected}
use Rattle.tcp_halves.proofs.Keeping.{IsKeeping, none_within, at_none, inserted_readable}
use Rattle.tcp_state.proofs.Sound.{sound_keeping}

-- behind a FIN that counts nothing is kept, and else it leaves what is kept
abbrev Ends : List (Option ℕ) → Segment → View → Type 0
Ends kept s w = (w.receiving.kept ≡ kept) ⊎ ((s.flags.fin ≡ true) × AreFree w.receiving.kept)

kept_by_fin : (w : View) (s : Segment) → Ends w.receiving.kept s (after_fin w s)
kept_by_fin w s =
    by_fin (λ x. Ends w.receiving.kept s x) w s
    (λ counts. inr (and_left s.flags.fin (is_receiving w.state) (and_left (s.flags.fin && is_receiving w.state) _ counts), at_none (length w.receiving.kept)))
    (inl refl) (inl refl)

readable_by_fin : (w : View) (s : Segment) → (after_fin w s).receiving.readable ≡ w.receiving.readable
readable_by_fin w s = by_fin (λ x. x.receiving.readable ≡ w.receiving.readable) w s (λ counts. refl) refl refl

-- What a segment leaves to be read, and what it keeps.

abbrev Gains : View → Segment → View → Type 0
Gains v s w = (w.receiving.readable ≡ v.receiving.readable) ⊎ (w.receiving.readable ≡ v.receiving.readable ++ octets_gained v.receiving s.number s.octets)

abbrev Keeps : View → Segment → View → Type 0
Keeps v s w = (w.receiving.kept ≡ v.receiving.kept) ⊎ ((w.receiving.kept ≡ (after_octets v.receiving s.number s.octets).kept) ⊎ ((s.flags.fin ≡ true) × AreFree w.receiving.kept))

abbrev Takes : View → Segment → View → Type 0
Takes v s w = Gains v s w × Keeps v s w

grown : (r : Receiving) (number : ℕ) (octets : List ℕ) → (after_octets r number octets).readable ≡ r.readable ++ octets_gained r number octets
grown r number octets = inserted_readable (buffer_of r) (distance_of r number) (octets_within r number octets)

as_was : (v w : View) (s : Segment) → w.receiving ≡ v.receiving → Takes v s w
as_was v w s same = (inl (ap (λ (r : Receiving). r.readable) same), inl (ap (λ (r : Receiving). r.kept) same))

text_takes : (v w : View) (s : Segment) → w.receiving ≡ v.receiving → Takes v s (after_text w s)
text_takes v w s same =
    either View (λ x. Takes v s x) ((length s.octets == 0) || not (is_receiving w.state)) w _
    (λ none. as_was v w s same)
    (λ some. (
      inr (ap (λ (r : Receiving). (after_octets r s.number s.octets).readable) same ∙ grown v.receiving s.number s.octets),
      inr (inl (ap (λ (r : Receiving). (after_octets r s.number s.octets).kept) same)),
    ))

fin_takes : (v w : View) (s : Segment) → Takes v s w → Takes v s (after_fin w s)
fin_takes v w s was = (
  elim was.0 [ inl none ↦ inl (readable_by_fin w s ∙ none) | inr some ↦ inr (readable_by_fin w s ∙ some) ],
  elim (kept_by_fin w s) [
    | inl stays ↦ elim was.1 [
      | inl none ↦ inl (stays ∙ none)
      | inr more ↦ elim more [ inl some ↦ inr (inl (stays ∙ some)) | inr ends ↦ inr (inr (ends.0, λ distance. ap (λ (ps : List (Option ℕ)). get_or ps distance None) stays ∙ ends.1 distance)) ]
    ]
    | inr ends ↦ inr (inr ends)
  ],
)

pub told_receives : (v : View) (s : Segment) → (after_window (after_ack v s.acknowledgement) s).receiving ≡ v.receiving
told_receives v s = ack_receives v s.acknowledgement

heard_takes : (v : View) (s : Segment) → Takes v s (after_heard v s)
heard_takes v s =
    let told = after_window (after_ack v s.acknowledgement) s in
    by_hearing (λ w. Takes v s w) v s (as_was v (after_lost v s) s (told_receives v s)) (record {
      dropped = as_was v v s refl;
      drawn = (inl refl, inl refl);
      reset = λ acts. (inl refl, inl refl);
      crossed = λ waits. (inl refl, inl refl);
      opened = λ waits right. (inl refl, inl refl);
      acknowledged = λ taken. as_was v (after_ack v s.acknowledgement) s (ack_receives v s.acknowledgement);
      read = λ on. fin_takes v (after_text told s) s (text_takes v told s (told_receives v s));
    })

takes_alone : (v : View) (s : Segment) (now : Moment) → Takes v s (after_segment_at v s now)
takes_alone v s now = by_clock (λ w. Takes v s w) v s now (as_was v v s refl) (λ lives. heard_takes v s)

pub gains_alone : (v : View) (s : Segment) (now : Moment)
    → ((after_segment_at v s now).receiving.readable ≡ v.receiving.readable) ⊎ ((after_segment_at v s now).receiving.readable ≡ v.receiving.readable ++ octets_gained v.receiving s.number s.octets)
gains_alone v s now = (takes_alone v s now).0

pub keeps_alone : (v : View) (s : Segment) (now : Moment)
    → ((after_segment_at v s now).receiving.kept ≡ v.receiving.kept)
    ⊎ (((after_segment_at v s now).receiving.kept ≡ (after_octets v.receiving s.number s.octets).kept) ⊎ ((s.flags.fin ≡ true) × AreFree (after_segment_at v s now).receiving.kept))
keeps_alone v s now = (takes_alone v s now).1

-- A segment that is read.

pub receiving_lives : (t : State) → is_receiving t ≡ true → (is_closed t ≡ false) × (is_syn_sent t ≡ false) × (is_syn_received t ≡ false)
receiving_lives Established e = (refl, refl, refl)
receiving_lives FinWait1 e = (refl, refl, refl)
receiving_lives FinWait2 e = (refl, refl, refl)
receiving_lives _ e = cc

receiving_beyond : (t : State) → is_receiving t ≡ true → is_receiving (beyond_fin t) ≡ true
receiving_beyond Established e = refl
receiving_beyond FinWait1 e = refl
receiving_beyond FinWait2 e = refl
receiving_beyond _ e = cc

pub receiving_after : (v : View) (ack : ℕ) → is_receiving v.state ≡ true → is_receiving (after_ack v ack).state ≡ true
receiving_after v ack receiving = by_ack (λ w. is_receiving w.state ≡ true) v ack (record {
  old = receiving;
  beyond = receiving;
  opens = λ received new. refl;
  octets = λ new. receiving;
  fin = λ new fin. receiving_beyond v.state receiving;
})

-- no octets are none in the window
none_of_none : (r : Receiving) (number : ℕ) (octets : List ℕ) → IsKeeping r → (length octets == 0) ≡ true → after_octets r number octets ≡ r
none_of_none r number octets is empty =
    let none : length octets ≡ 0 = eqb-true (length octets) 0 empty in
    let window : ℕ = receive_window r in
    none_within r number octets is
    (either (List ℕ) (λ l. length l ≡ 0) (is_before r.rnext number) (take (window - past number r.rnext) octets) (take window (drop (past r.rnext number) octets))
    (λ ahead. omega (arith, length-take (window - past number r.rnext) octets, none))
    (λ behind. omega (arith, length-take window (drop (past r.rnext number) octets), length-drop (past r.rnext number) octets, none)))

-- all its octets in the window, and behind its FIN nothing
abbrev TakesAll : View → Segment → View → Type 0
TakesAll v s w = (w.receiving.readable ≡ v.receiving.readable ++ octets_gained v.receiving s.number s.octets) × Ends (after_octets v.receiving s.number s.octets).kept s w

all_text : (v w : View) (s : Segment) → IsKeeping v.receiving → is_receiving w.state ≡ true → w.receiving ≡ v.receiving
    → ((after_text w s).receiving.readable ≡ v.receiving.readable ++ octets_gained v.receiving s.number s.octets) × ((after_text w s).receiving.kept ≡ (after_octets v.receiving s.number s.octets).kept)
all_text v w s is receiving same =
    let r : Receiving = v.receiving in
    let P : View → Type 0 = λ x. (x.receiving.readable ≡ r.readable ++ octets_gained r s.number s.octets) × (x.receiving.kept ≡ (after_octets r s.number s.octets).kept) in
    either View P ((length s.octets == 0) || not (is_receiving w.state)) w _
    (λ none. elim (or_else (length s.octets == 0) (not (is_receiving w.state)) none) [
      | inl empty ↦ let whole : w.receiving ≡ after_octets r s.number s.octets = same ∙ sym (none_of_none r s.number s.octets is empty) in
          (ap (λ (t : Receiving). t.readable) whole ∙ grown r s.number s.octets, ap (λ (t : Receiving). t.kept) whole)
      | inr deaf ↦ clash (is_receiving w.state) receiving (not_true (is_receiving w.state) deaf)
    ])
    (λ some. (
      ap (λ (t : Receiving). (after_octets t s.number s.octets).readable) same ∙ grown r s.number s.octets,
      ap (λ (t : Receiving). (after_octets t s.number s.octets).kept) same,
    ))

all_read : (v : View) (s : Segment) → IsKeeping v.receiving → is_receiving v.state ≡ true → TakesAll v s (after_reading v s)
all_read v s is receiving =
    let told = after_window (after_ack v s.acknowledgement) s in
    let text = all_text v told s is (receiving_after v s.acknowledgement receiving) (told_receives v s) in (
      readable_by_fin (after_text told s) s ∙ text.0,
      elim (kept_by_fin (after_text told s) s) [ inl stays ↦ inl (stays ∙ text.1) | inr ends ↦ inr ends ],
    )

-- what holds where it is read, and is left by the clock
pub where_read : (P : View → Type 0) (v : View) (s : Segment) (now : Moment) → v.released ≡ false → is_receiving v.state ≡ true → is_read v s ≡ true
    → ((w : View) → P w → P (timed_by (before v s) w now)) → P (after_reading v s) → P (after_segment_at v s now)
where_read P v s now kept receiving read timed holds =
    let lives = receiving_lives v.state receiving in
    let heard : after_segment v s ≡ after_reading v s = reads v s lives.0 lives.1 (read_tells v s read) in
    either View P (is_closed v.state || is_rejected v s) v (timed_by (before v s) (after_heard v s) now)
    (λ unheard. clash (is_closed v.state || is_rejected v s) unheard (ap (λ b. b || is_rejected v s) lives.0 ∙ not_rejected v s lives.1 lives.2))
    (λ hears. timed (after_heard v s) (either View P (is_lost v s) (after_lost v s) (after_segment v s)
    (λ lost. clash v.released (and_left v.released (is_receiving v.state) (and_left (v.released && is_receiving v.state) (is_read v s) (and_left (v.released && is_receiving v.state && is_read v s) _ lost))) kept)
    (λ stays. subst P (sym heard) holds)))

all_where_read : (v : View) (s : Segment) (now : Moment) → IsSound v → v.released ≡ false → is_receiving v.state ≡ true → is_read v s ≡ true → TakesAll v s (after_segment_at v s now)
all_where_read v s now sound kept receiving read = where_read (λ w. TakesAll v s w) v s now kept receiving read (λ w all. all) (all_read v s (sound_keeping v sound) receiving)

pub gains_where_read : (v : View) (s : Segment) (now : Moment) → IsSound v → v.released ≡ false → is_receiving v.state ≡ true → is_read v s ≡ true
    → (after_segment_at v s now).receiving.readable ≡ v.receiving.readable ++ octets_gained v.receiving s.number s.octets
gains_where_read v s now sound kept receiving read = (all_where_read v s now sound kept receiving read).0

pub keeps_where_read : (v : View) (s : Segment) (now : Moment) → IsSound v → v.released ≡ false → is_receiving v.state ≡ true → is_read v s ≡ true
    → ((after_segment_at v s now).receiving.kept ≡ (after_octets v.receiving s.number s.octets).kept) ⊎ ((s.flags.fin ≡ true) × AreFree (after_segment_at v s now).receiving.kept)
keeps_where_read v s now sound kept receiving read = (all_where_read v s now sound kept receiving read).1
