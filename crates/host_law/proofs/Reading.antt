-- What is read of a connection was brought to it, over every step of its host.
use Rattle.std.proofs.Common.{◌≡◌, ◌⊎◌, ℕ, zero, suc, ◌+◌, ◌==◌, ◌||◌, ◌&&◌, not, Bool, true, false, if◌then◌else◌, ◌<◌, List, [], ◌∷◌, ◌++◌, length, take, drop, Option, Some, None, is_some, inl, inr, arith, refl, sym, ◌∙◌, ap, subst, append-nil, append_assoc, length-append}
use Rattle.std.specs.List.{slice_get}
use Rattle.std.proofs.lemmas.Bool.{eqb-true}
use Rattle.std.proofs.lemmas.List.{take-append-drop, length-drop}
use Rattle.tcp_segment.specs.Segment.{Segment}
use Rattle.tcp_segment.specs.Wire.{past}
use Rattle.tcp_halves.specs.Stream.{receive_window}
use Rattle.tcp_halves.proofs.Choices.{either, clash, neither}
use Rattle.tcp_state.specs.declared.state.State.{State}
use Rattle.tcp_state.specs.declared.state.State.TheVariants.{SynSent}
use Rattle.tcp_state.specs.Calls.{recv_count, after_recv}
use Rattle.tcp_state.specs.View.{View, IsSound, is_opening, is_closed, is_syn_sent, is_read_closed}
use Rattle.sockets.specs.declared.entry.SocketId.{SocketId}
use Rattle.stream_law.specs.Channel.{number_of}
use Rattle.stream_law.specs.ChannelViews.{kept_at, reports}
use Rattle.stream_law.proofs.Kept.{at_free, keeps_same}
use Rattle.host.specs.ConfigView.{ConfigView}
use Rattle.host.specs.HostView.{HostView, new_host}
use Rattle.host_law.specs.Callers.{read_at, read_on, ended_at}
use Rattle.host_law.specs.Coming.{IsHeard, Brings, BringsEnd}
use Rattle.host_law.specs.History.{Step, Once, connection_of}
use Rattle.host_law.specs.HostLaw.{ReadsWhatCame}
use Rattle.host_law.specs.Positions.{taken_in, rcv_nxt}
use Rattle.host_law.proofs.Befalls as befalls
use Rattle.host_law.proofs.Befalls.{Befalls, IsGone, IsOfConnection, IsUntold}
use Rattle.host_law.proofs.Brought.{IsKnown}
use Rattle.host_law.proofs.Coming.{Rests, Synchronises, Takes, Comes, rests, synchronises, takes, quietly, emitted, shut, sent, closed, heard}

-- its caller was told the end
abbrev pub IsEnd : SocketId → Step → List Step → Type 0
IsEnd id step earlier = ended_at id step.before step.event ≡ true

-- What a connection has of its peer's stream: what was read and can be was brought, and so was what is kept, each octet at its position; RCV.NXT stands behind what can be read, until the end came; and the end,
-- which was brought behind that, is told only there.
pub record Receives (c : ConfigView) (id : SocketId) (v : View) (steps : List Step) : Type 0 where
  pub octets : (k octet : ℕ) → slice_get (read_on id steps ++ v.receiving.readable) k ≡ Some octet → Once (Brings c id (k + 1) octet) steps
  pub kept : is_closed v.state ≡ false → (distance octet : ℕ) → kept_at v.receiving.kept distance ≡ Some octet → Once (Brings c id (rcv_nxt id steps + distance) octet) steps
  pub next : is_closed v.state ≡ false → is_read_closed v.state ≡ false → rcv_nxt id steps ≡ length (read_on id steps ++ v.receiving.readable) + 1
  pub end : reports v ≡ true → is_read_closed v.state ≡ true → Once (BringsEnd c id (length (read_on id steps ++ v.receiving.readable) + 1)) steps
  pub ended : Once (IsEnd id) steps → (length v.receiving.readable ≡ 0) × (is_read_closed v.state ≡ true)

-- nothing was read yet, and no end told
pub record IsUnread (id : SocketId) (steps : List Step) : Type 0 where
  pub none : read_on id steps ≡ []
  pub first : rcv_nxt id steps ≡ 1
  pub unended : Once (IsEnd id) steps → ⊥

pub record KeepsRead (c : ConfigView) (id : SocketId) (h : HostView) (steps : List Step) : Type 0 where
  pub law : ReadsWhatCame c id steps
  pub here : (v : View) → connection_of id h ≡ Some v → Receives c id v steps
  pub absent : connection_of id h ≡ None → IsGone id h ⊎ IsUnread id steps

-- Lists.

-- what stands at a place of two lists stands in the first, or in the second behind it
split : (xs ys : List ℕ) (k o : ℕ) → slice_get (xs ++ ys) k ≡ Some o → (slice_get xs k ≡ Some o) ⊎ ((i : ℕ) × (k ≡ length xs + i) × (slice_get ys i ≡ Some o))
split [] ys k o e = inr (k, omega arith, e)
split (x ∷ xs) ys zero o e = inl e
split (x ∷ xs) ys (suc k) o e = elim (split xs ys k o e) [ inl t ↦ inl t | inr t ↦ inr (t.0, omega (arith, t.1), t.2) ]

beginning : (xs ys : List ℕ) (k o : ℕ) → slice_get xs k ≡ Some o → slice_get (xs ++ ys) k ≡ Some o
beginning [] ys k o e = let bad : slice_get [] k ≡ Some o = e in cc
beginning (x ∷ xs) ys zero o e = e
beginning (x ∷ xs) ys (suc k) o e = beginning xs ys k o e

take_none : (n : ℕ) → ◌≡◌ {A = List ℕ} (take n []) []
take_none zero = refl
take_none (suc n) = refl

nothing_in : (xs : List ℕ) → length xs ≡ 0 → xs ≡ []
nothing_in [] e = refl
nothing_in (x ∷ xs) e = cc

-- A new host.

pub unread : (c : ConfigView) (id : SocketId) → KeepsRead c id (new_host c) []
unread c id = record {
  law = record { octets = λ k o e. let bad : slice_get [] k ≡ Some o = e in cc; end = λ e. absurd e };
  here = λ v e. cc;
  absent = λ e. inr (record { none = refl; first = refl; unended = λ e. absurd e });
}

-- A step.

module _ (c : ConfigView) (id : SocketId) (step : Step) (earlier : List Step) where
  abbrev steps : List Step
  steps = step ∷ earlier

  -- the caller is told nothing
  record IsSilent : Type 0 where
    pub read : read_at id step.before step.event ≡ []
    pub ended : ended_at id step.before step.event ≡ false

  silent : IsUntold id step → IsSilent
  silent untold = record { read = untold.read; ended = untold.ended }

  -- RCV.NXT doesn't move
  abbrev Rests-position : Type 0
  Rests-position = rcv_nxt id steps ≡ rcv_nxt id earlier

  at_rest : (o p : Option View) → connection_of id step.before ≡ o → connection_of id step.after ≡ p → taken_in o p ≡ 0 → Rests-position
  at_rest o p before after none = let moved : taken_in (connection_of id step.before) (connection_of id step.after) ≡ 0 = ap (λ x. taken_in x (connection_of id step.after)) before ∙ ap (taken_in o) after ∙ none in omega (arith, moved)

  moved_none : (v w : View) → v.receiving.rnext ≡ w.receiving.rnext → IsSound v → taken_in (Some v) (Some w) ≡ 0
  moved_none v w same sound = by (is_syn_sent v.state)
    where
      none : past w.receiving.rnext v.receiving.rnext ≡ 0
      none = let rnext = sound.rnext in omega (arith, same, rnext)

      by : (b : Bool) → (if b then 0 else past w.receiving.rnext v.receiving.rnext) ≡ 0
      by true = refl
      by false = none

  -- the caller reads nothing
  same_read : read_at id step.before step.event ≡ [] → read_on id steps ≡ read_on id earlier
  same_read none = ap (λ l. read_on id earlier ++ l) none ∙ append-nil (read_on id earlier)

  same_law : read_at id step.before step.event ≡ [] → ended_at id step.before step.event ≡ false → ReadsWhatCame c id earlier → ReadsWhatCame c id steps
  same_law none untold law = record {
    octets = λ k o e. inr (law.octets k o (subst (λ l. slice_get l k ≡ Some o) (same_read none) e));
    end = λ e. elim e [
      | inl now ↦ clash (ended_at id step.before step.event) now untold
      | inr before ↦ inr (subst (λ l. Once (BringsEnd c id (length l + 1)) earlier) (sym (same_read none)) (law.end before))
    ];
  }

  earlier_end : ended_at id step.before step.event ≡ false → Once (IsEnd id) steps → Once (IsEnd id) earlier
  earlier_end untold e = elim e [ inl now ↦ clash (ended_at id step.before step.event) now untold | inr before ↦ before ]

  -- what could be read, and what can be
  abbrev Same-text : View → View → Type 0
  Same-text v w = read_on id steps ++ w.receiving.readable ≡ read_on id earlier ++ v.receiving.readable

  same_text : (v w : View) → read_at id step.before step.event ≡ [] → w.receiving.readable ≡ v.receiving.readable → Same-text v w
  same_text v w none same = ap (λ l. l ++ w.receiving.readable) (same_read none) ∙ ap (λ l. read_on id earlier ++ l) same

  resting : (v w : View) → IsSilent → Rests-position → Rests v w → Receives c id v earlier → Receives c id w steps
  resting v w untold next r was =
      let text = same_text v w untold.read r.readable in
      record {
        octets = λ k o e. inr (was.octets k o (subst (λ l. slice_get l k ≡ Some o) text e));
        kept = λ lives d o e. inr (subst (λ n. Once (Brings c id (n + d) o) earlier) (sym next) (was.kept (r.lives lives).0 d o (ap (λ ps. kept_at ps d) (sym r.kept) ∙ e)));
        next = λ lives unended. next ∙ was.next (r.lives lives).0 (sym (r.lives lives).1 ∙ unended) ∙ ap (λ l. length l + 1) (sym text);
        end = λ tells ends. let so = r.end tells ends in inr (subst (λ l. Once (BringsEnd c id (length l + 1)) earlier) (sym text) (was.end so.0 so.1));
        ended = λ e. let so = was.ended (earlier_end untold.ended e) in (ap length r.readable ∙ so.0, r.shut so.1);
      }

  sent_open : (t : State) → is_syn_sent t ≡ true → (is_closed t ≡ false) × (is_read_closed t ≡ false)
  sent_open SynSent e = (refl, refl)
  sent_open _ e = cc

  synchronising : (v w : View) → IsSilent → Rests-position → Synchronises v w → Receives c id v earlier → Receives c id w steps
  synchronising v w untold next r was =
      let text = same_text v w untold.read r.readable in
      let so = sent_open v.state r.waits in
      record {
        octets = λ k o e. inr (was.octets k o (subst (λ l. slice_get l k ≡ Some o) text e));
        kept = λ lives d o e. inr (subst (λ n. Once (Brings c id (n + d) o) earlier) (sym next) (was.kept so.0 d o (ap (λ ps. kept_at ps d) (sym r.kept) ∙ e)));
        next = λ lives unended. next ∙ was.next so.0 so.1 ∙ ap (λ l. length l + 1) (sym text);
        end = λ tells ends. clash (is_read_closed w.state) ends r.unended;
        ended = λ e. clash (is_read_closed v.state) (was.ended (earlier_end untold.ended e)).1 so.1;
      }

  -- an octet that a segment brings, by its distance from where RCV.NXT stood
  known : (v : View) (s : Segment) (w : View) → IsHeard c id v s step → Takes v s w → Receives c id v earlier → (distance octet position : ℕ) → position ≡ rcv_nxt id earlier + distance
      → IsKnown v.receiving s distance octet → Once (Brings c id position octet) steps
  known v s w comes t was distance octet position place is = elim is [
    | inl kept ↦ inr (subst (λ n. Once (Brings c id n octet) earlier) (sym place) (was.kept t.lived distance octet kept))
    | inr brought ↦ inl (record {
      v = v;
      s = s;
      heard = comes;
      used = t.used;
      i = brought.0;
      there = brought.1;
      at = record { within = subst (λ d. d < receive_window v.receiving) (sym brought.2) brought.3; place = place ∙ ap (λ d. rcv_nxt id earlier + d) (sym brought.2) };
    })
  ]

  -- RCV.NXT moves over what comes
  moved_on : (v w : View) (s : Segment) (t : Takes v s w) → connection_of id step.before ≡ Some v → connection_of id step.after ≡ Some w → rcv_nxt id steps ≡ rcv_nxt id earlier + (length t.gained + number_of t.fin)
  moved_on v w s t before after =
      let by_views : taken_in (connection_of id step.before) (connection_of id step.after) ≡ taken_in (Some v) (Some w) = ap (λ x. taken_in x (connection_of id step.after)) before ∙ ap (taken_in (Some v)) after in
      let moved : taken_in (Some v) (Some w) ≡ length t.gained + number_of t.fin = ap (λ b. if b then 0 else past w.receiving.rnext v.receiving.rnext) t.used.synchronised ∙ t.moved in
      ap (λ n. rcv_nxt id earlier + n) (by_views ∙ moved)

  taking : (v w : View) (s : Segment) → IsSilent → IsHeard c id v s step → connection_of id step.before ≡ Some v → connection_of id step.after ≡ Some w → Takes v s w → Receives c id v earlier → Receives c id w steps
  taking v w s untold comes before after t was =
      let was_there : List ℕ = read_on id earlier ++ v.receiving.readable in
      let text : read_on id steps ++ w.receiving.readable ≡ was_there ++ t.gained = ap (λ l. l ++ w.receiving.readable) (same_read untold.read) ∙ ap (λ l. read_on id earlier ++ l) t.readable ∙ sym (append_assoc (read_on id earlier) v.receiving.readable t.gained) in
      let next = was.next t.lived t.unended in
      let moved = moved_on v w s t before after in
      let size : length (read_on id steps ++ w.receiving.readable) ≡ length was_there + length t.gained = ap length text ∙ length-append was_there t.gained in
      record {
        octets = λ k o e. elim (split was_there t.gained k o (subst (λ l. slice_get l k ≡ Some o) text e)) [
          | inl there ↦ inr (was.octets k o there)
          | inr there ↦ let place = there.1 in known v s w comes t was there.0 o (k + 1) (omega (arith, place, next)) (t.gained_from there.0 o there.2)
        ];
        kept = λ lives d o e. known v s w comes t was (length t.gained + number_of t.fin + d) o (rcv_nxt id steps + d) (omega (arith, moved)) (t.kept_from d o e);
        next = λ lives unended. let none : number_of t.fin ≡ 0 = ap number_of (sym t.shut ∙ unended) in omega (arith, moved, none, next, size);
        end = λ tells ends. let f = t.end (sym t.shut ∙ ends) in inl (record {
          v = v;
          s = s;
          heard = comes;
          used = t.used;
          fin = f.0;
          at = record { within = subst (λ d. d < receive_window v.receiving) (sym f.1) f.2; place = omega (arith, size, next, f.1) };
        });
        ended = λ e. clash (is_read_closed v.state) (was.ended (earlier_end untold.ended e)).1 t.unended;
      }

  hearing : (v w : View) (s : Segment) → IsSilent → IsHeard c id v s step → IsSound v → connection_of id step.before ≡ Some v → connection_of id step.after ≡ Some w → Comes v s w → Receives c id v earlier → Receives c id w steps
  hearing v w s untold comes sound before after (rests r) was = resting v w untold (at_rest (Some v) (Some w) before after (moved_none v w (sym r.rnext) sound)) r was
  hearing v w s untold comes sound before after (synchronises r) was =
      synchronising v w untold (at_rest (Some v) (Some w) before after (ap (λ b. if b then 0 else past w.receiving.rnext v.receiving.rnext) r.waits)) r was
  hearing v w s untold comes sound before after (takes t) was = taking v w s untold comes before after t was

  -- The caller reads.

  record Read (v w : View) : Type 0 where
    pub text : read_at id step.before step.event ++ w.receiving.readable ≡ v.receiving.readable
    pub kept : (d : ℕ) → kept_at w.receiving.kept d ≡ kept_at v.receiving.kept d
    pub rnext : w.receiving.rnext ≡ v.receiving.rnext
    pub state : w.state ≡ v.state
    pub tells : reports w ≡ reports v
    pub empty : length v.receiving.readable ≡ 0 → length w.receiving.readable ≡ 0

  read_by : (v : View) (len : ℕ) → (is_some v.pending_error || is_opening v.state) ≡ false → read_at id step.before step.event ≡ take (recv_count v len) v.receiving.readable → Read v (after_recv v len)
  read_by v len fine given =
      let r = v.receiving in
      let n = recv_count v len in
      let whole : read_at id step.before step.event ++ drop n r.readable ≡ r.readable = ap (λ l. l ++ drop n r.readable) given ∙ take-append-drop n r.readable in
      either View (Read v) (is_some v.pending_error || is_opening v.state || (length r.readable == 0)) v _
      (λ stays.
      let both = neither_first (is_some v.pending_error) (is_opening v.state) (length r.readable == 0) fine stays in
      let none : r.readable ≡ [] = nothing_in r.readable (eqb-true (length r.readable) 0 both) in
      let no_octets : take n r.readable ≡ [] = ap (take n) none ∙ take_none n in
      record { text = ap (λ l. l ++ r.readable) (given ∙ no_octets); kept = λ d. refl; rnext = refl; state = refl; tells = refl; empty = λ e. e })
      (λ reads. record {
        text = whole;
        kept = λ d. ap (λ (places : ℕ → Option ℕ). places d) (keeps_same r.kept n);
        rnext = refl;
        state = refl;
        tells = refl;
        empty = λ e. let size = length-drop n r.readable in omega (arith, size, e);
      })
    where
      neither_first : (a b d : Bool) → (a || b) ≡ false → (a || b || d) ≡ true → d ≡ true
      neither_first true b d e f = cc
      neither_first false true d e f = cc
      neither_first false false d e f = f

  text_read : (v w : View) → Read v w → read_on id steps ++ w.receiving.readable ≡ read_on id earlier ++ v.receiving.readable
  text_read v w r = append_assoc (read_on id earlier) (read_at id step.before step.event) w.receiving.readable ∙ ap (λ l. read_on id earlier ++ l) r.text

  reading : (v w : View) → Rests-position → (ended_at id step.before step.event ≡ true → (length v.receiving.readable ≡ 0) × (is_read_closed v.state ≡ true)) → Read v w → Receives c id v earlier → Receives c id w steps
  reading v w next told r was =
      let text = text_read v w r in
      let shut : is_read_closed w.state ≡ is_read_closed v.state = ap is_read_closed r.state in
      let lived : is_closed w.state ≡ false → is_closed v.state ≡ false = λ e. sym (ap is_closed r.state) ∙ e in
      record {
        octets = λ k o e. inr (was.octets k o (subst (λ l. slice_get l k ≡ Some o) text e));
        kept = λ lives d o e. inr (subst (λ n. Once (Brings c id (n + d) o) earlier) (sym next) (was.kept (lived lives) d o (sym (r.kept d) ∙ e)));
        next = λ lives unended. next ∙ was.next (lived lives) (sym shut ∙ unended) ∙ ap (λ l. length l + 1) (sym text);
        end = λ tells ends. inr (subst (λ l. Once (BringsEnd c id (length l + 1)) earlier) (sym text) (was.end (sym r.tells ∙ tells) (sym shut ∙ ends)));
        ended = λ e. elim e [
          | inl now ↦ let so = told now in (r.empty so.0, shut ∙ so.1)
          | inr before ↦ let so = was.ended before in (r.empty so.0, shut ∙ so.1)
        ];
      }

  read_law : (v w : View) → reports v ≡ true → (ended_at id step.before step.event ≡ true → (length v.receiving.readable ≡ 0) × (is_read_closed v.state ≡ true)) → Read v w → Receives c id v earlier → ReadsWhatCame c id earlier → ReadsWhatCame c id steps
  read_law v w tells told r was law =
      let text = text_read v w r in
      let whole : length v.receiving.readable ≡ 0 → read_on id steps ≡ read_on id earlier ++ v.receiving.readable = λ e.
      sym (append-nil (read_on id steps)) ∙ ap (λ l. read_on id steps ++ l) (sym (nothing_in w.receiving.readable (r.empty e))) ∙ text in
      let same : length v.receiving.readable ≡ 0 → read_on id steps ≡ read_on id earlier = λ e. whole e ∙ ap (λ l. read_on id earlier ++ l) (nothing_in v.receiving.readable e) ∙ append-nil (read_on id earlier) in
      record {
        octets = λ k o e. inr (was.octets k o (subst (λ l. slice_get l k ≡ Some o) text (beginning (read_on id steps) w.receiving.readable k o e)));
        end = λ e. elim e [
          | inl now ↦ let so = told now in inr (subst (λ l. Once (BringsEnd c id (length l + 1)) earlier) (sym (whole so.0)) (was.end tells so.1))
          | inr before ↦ inr (subst (λ l. Once (BringsEnd c id (length l + 1)) earlier) (sym (same (was.ended before).0)) (law.end before))
        ];
      }

  -- It is opened.

  opening : (w : View) → IsSilent → Rests-position → w.receiving.readable ≡ [] → ((d : ℕ) → kept_at w.receiving.kept d ≡ None) → is_read_closed w.state ≡ false → IsUnread id earlier → Receives c id w steps
  opening w untold next empty free unended new =
      let text : read_on id steps ++ w.receiving.readable ≡ [] = ap (λ l. l ++ w.receiving.readable) (same_read untold.read ∙ new.none) ∙ empty in
      record {
        octets = λ k o e. let bad : slice_get [] k ≡ Some o = subst (λ l. slice_get l k ≡ Some o) text e in cc;
        kept = λ lives d o e. let nothing : Option ℕ = None in let bad : nothing ≡ Some o = sym (free d) ∙ e in cc;
        next = λ lives open_still. next ∙ new.first ∙ ap (λ l. length l + 1) (sym text);
        end = λ tells ends. clash (is_read_closed w.state) ends unended;
        ended = λ e. absurd (new.unended (earlier_end untold.ended e));
      }

  unopened : IsSilent → Rests-position → IsUnread id earlier → IsUnread id steps
  unopened untold next new = record { none = same_read untold.read ∙ new.none; first = next ∙ new.first; unended = λ e. new.unended (earlier_end untold.ended e) }

  -- In all.

  abbrev Kept : Option View → Type 0
  Kept p = ((v : View) → p ≡ Some v → Receives c id v steps) × (p ≡ None → IsGone id step.after ⊎ IsUnread id steps)

  kept_some : (w : View) → Receives c id w steps → Kept (Some w)
  kept_some w r = (λ v same. subst (λ x. Receives c id x steps) (one w v same) r, λ none. cc)
    where
      one : (a b : View) → Some a ≡ Some b → a ≡ b
      one a b e = cc

  reports_open : (v : View) → (is_some v.pending_error || is_opening v.state) ≡ false → v.released ≡ false → reports v ≡ true
  reports_open v fine unleft = by (is_closed v.state) (is_some v.pending_error) v.released (neither (is_some v.pending_error) (is_opening v.state) fine).0 unleft
    where
      by : (closed error left : Bool) → error ≡ false → left ≡ false → not (closed && (error || left)) ≡ true
      by true true left e f = cc
      by true false true e f = cc
      by true false false e f = refl
      by false error left e f = refl

  rested : (v w : View) → connection_of id step.before ≡ Some v → connection_of id step.after ≡ Some w → IsSilent → Rests v w → IsOfConnection c id step → KeepsRead c id step.before earlier → ReadsWhatCame c id steps × Kept (Some w)
  rested v w before after untold r is was = (
    same_law untold.read untold.ended was.law,
    kept_some w (resting v w untold (at_rest (Some v) (Some w) before after (moved_none v w (sym r.rnext) (is.sound v before))) r (was.here v before)),
  )

  step_on : (o p : Option View) → connection_of id step.before ≡ o → connection_of id step.after ≡ p → Befalls c id step o p → IsOfConnection c id step → KeepsRead c id step.before earlier → ReadsWhatCame c id steps × Kept p
  step_on _ _ before after (befalls.absent untold stays) is was =
      let next = at_rest None None before after refl in
      (same_law untold.read untold.ended was.law, (λ v e. cc, λ none. elim (was.absent before) [ inl gone ↦ inl (stays gone) | inr new ↦ inr (unopened (silent untold) next new) ]))
  step_on _ _ before after (befalls.connects room local peer isn now small untold new_one) is was =
      let next = at_rest None (Some _) before after refl in
      (same_law untold.read untold.ended was.law, kept_some _ (elim (was.absent before) [ inl gone ↦ absurd (new_one gone) | inr new ↦ opening _ (silent untold) next refl (at_free room.capacity) refl new ]))
  step_on _ _ before after (befalls.accepts room local peer isn s now small untold new_one opened) is was =
      let next = at_rest None (Some _) before after refl in
      (same_law untold.read untold.ended was.law, kept_some _ (elim (was.absent before) [ inl gone ↦ absurd (new_one gone) | inr new ↦ opening _ (silent untold) next refl (at_free room.capacity) refl new ]))
  step_on _ _ before after (befalls.quietly v w untold in_turn) is was = rested v w before after (silent untold) (quietly v w in_turn) is was
  step_on _ _ before after (befalls.hears v s now untold comes) is was =
      let sound = is.sound v before in
      let fits = is.fits v s comes in
      (same_law untold.read untold.ended was.law, kept_some _ (hearing v _ s (silent untold) comes sound before after (heard v s sound fits.octets fits.number now) (was.here v before)))
  step_on _ _ before after (befalls.emits v now untold out) is was = rested v _ before after (silent untold) (emitted v now) is was
  step_on _ _ before after (befalls.sends v octets now fine given none untold) is was = rested v _ before after (record { read = none; ended = untold }) (sent v octets now) is was
  step_on _ _ before after (befalls.reads v len fine unleft none given told) is was =
      let r = read_by v len fine given in
      let w = after_recv v len in
      let k = was.here v before in
      let next = at_rest (Some v) (Some w) before after (moved_none v w (sym r.rnext) (is.sound v before)) in
      (read_law v w (reports_open v fine unleft) told r k was.law, kept_some w (reading v w next told r k))
  step_on _ _ before after (befalls.shuts v now untold closes fine) is was = rested v _ before after (silent untold) (shut v now) is was
  step_on _ _ before after (befalls.closes v now untold closes) is was = rested v _ before after (silent untold) (closed v now) is was
  step_on _ _ before after (befalls.leaves v untold gone) is was = (same_law untold.read untold.ended was.law, (λ w e. cc, λ none. inl gone))

  pub keeps_read : IsOfConnection c id step → KeepsRead c id step.before earlier → KeepsRead c id step.after steps
  keeps_read is was =
      let k = step_on (connection_of id step.before) (connection_of id step.after) refl refl is.befalls is was in
      record { law = k.0; here = k.1.0; absent = k.1.1 }
