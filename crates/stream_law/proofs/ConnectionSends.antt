-- What a connection takes from its caller, and what it sends, is a step of each of its two channels.
use Rattle.std.proofs.Common.{◌≡◌, ℕ, ◌+◌, ◌-◌, ◌<◌, ◌≤◌, ◌^◌, ◌%◌, ◌||◌, ◌==◌, min, if◌then◌else◌, not, Bool, true, false, List, [], ◌∷◌, ◌++◌, length, take, drop, is_some, arith, refl, sym, ◌∙◌, ap, subst, append-nil, append_assoc, length-append, length-drop}
use Rattle.std.proofs.lemmas.Bool.{eqb-true}
use Rattle.std.proofs.lemmas.List.{length-take, take-append-drop}
use Rattle.tcp_segment.specs.Wire.{past}
use Rattle.tcp_segment.specs.Sent.{sent_segment}
use Rattle.clock.specs.declared.moment.Moment.{Moment}
use Rattle.tcp_state.specs.declared.emission.Due.TheVariants.{Syn, Text, Probe, Ack as AckAlone, KeepAlive}
use Rattle.tcp_state.specs.declared.emission.Stretch.{Stretch}
use Rattle.tcp_state.specs.View.{View, IsSound, is_opening, is_syn_sent, is_closed, is_write_finished, is_write_closed}
use Rattle.tcp_halves.specs.Numbers.{later_number}
use Rattle.tcp_halves.specs.Stream.{send_room, outstanding, number_before, bare_number}
use Rattle.tcp_halves.proofs.Choices.{by}
use Rattle.tcp_state.proofs.AckNumbers.{bare_at_next, bare_before, probed_is_open}
use Rattle.tcp_state.specs.Timing.{clocked}
use Rattle.tcp_state.specs.Calls.{send_count, with_octets, after_send}
use Rattle.tcp_state.specs.Due.{IsHeld, probe_stretch, end_of, octets_of_stretch, head_of, octets_of}
use Rattle.stream_law.specs.Channel.{Open, Waiting, Synchronised, Channel}
use Rattle.stream_law.specs.ChannelSteps.{Step, writes, emits_syn, emits_text, emits_bare, emits_before, emits_ack, span}
use Rattle.stream_law.specs.ChannelViews.{sender_of, receiver_of, SendsInto, ReceivesFrom, frame_of}
use Rattle.stream_law.proofs.KeepingText.{chosen}
use Rattle.stream_law.proofs.ConnectionArrival.{either}

-- octets that the caller gives stand behind those that are held, and of the rest of both streams nothing changed
pub record Takes (v w : View) (more : List ℕ) : Type 0 where
  pub state : w.state ≡ v.state
  pub sender : record (sender_of v) { held = v.sending.held ++ more } ≡ sender_of w
  pub receiving : w.receiving ≡ v.receiving

no_octets : (xs : List ℕ) → length xs ≡ 0 → xs ≡ []
no_octets [] e = refl
no_octets (x ∷ xs) e = cc

pub takes-octets : (v : View) (octets : List ℕ) (now : Moment) → is_some v.pending_error ≡ false → is_opening v.state ≡ false → is_write_closed v.state ≡ false → Takes v (after_send v octets now) (take (send_count v octets) octets)
takes-octets v octets now untold opened unclosed =
    either P (is_some v.pending_error || is_opening v.state || is_write_closed v.state) v (with_octets v more now)
    (λ refused. let bad : true ≡ false = sym refused ∙ neither (is_some v.pending_error || is_opening v.state) (is_write_closed v.state) (neither (is_some v.pending_error) (is_opening v.state) untold opened) unclosed in cc)
    (λ taken. either P (length more == 0) v (clocked false (record v { sending = record v.sending { held = v.sending.held ++ more } }) now)
    (λ none. record { state = refl; sender = ap (λ l. record (sender_of v) { held = l }) (nothing_more (eqb-true (length more) 0 none)); receiving = refl })
    (λ some. record { state = refl; sender = refl; receiving = refl }))
  where
    more : List ℕ
    more = take (send_count v octets) octets

    P : View → Type 0
    P w = Takes v w more

    neither : (a b : Bool) → a ≡ false → b ≡ false → (a || b) ≡ false
    neither true b e f = e
    neither false b e f = f

    nothing_more : length more ≡ 0 → v.sending.held ++ more ≡ v.sending.held
    nothing_more e = ap (λ l. v.sending.held ++ l) (no_octets more e) ∙ append-nil v.sending.held

-- they are written
pub sends : (cap limit : ℕ) (v w : View) (c : Channel) (octets : List ℕ) → length v.sending.held + send_room v.sending ≤ cap → is_write_closed v.state ≡ false → Takes v w (take (send_count v octets) octets) → SendsInto v c
    → Step cap limit c (record c { written = c.written ++ take (send_count v octets) octets; sending = Open (sender_of w) })
sends cap limit v w c octets room unclosed taken shows =
    let more = take (send_count v octets) octets in
    let s = sender_of v in
    let len : length more ≡ min (send_count v octets) (length octets) = length-take (send_count v octets) octets in
    let fits : length (s.held ++ more) ≤ cap = omega (arith, length-append s.held more, len, room) in
    subst (λ x. Step cap limit c (record c { written = c.written ++ more; sending = Open x })) taken.sender
    (writes c s more shows.sending (shows.closed ∙ unclosed) fits)

-- the SYN goes out
pub emits-syn : (cap limit : ℕ) (v : View) (c : Channel) → is_opening v.state ≡ true → v.sending.una < 2 ^ 32 → outstanding v.sending ≤ 1 → SendsInto v c
    → Step cap limit c (record c {
      sending = Open (record (sender_of v) { nxt = later_number v.sending.una v.sending.nxt ((v.sending.una + 1) % 2 ^ 32) });
      frames = frame_of (sent_segment (head_of v Syn) (octets_of v Syn)) (length c.written) ∷ c.frames;
    })
emits-syn cap limit v c opening una whole shows =
    let s = sender_of v in
    let unacked : s.syn_acked ≡ false = ap not opening in
    let end = (s.una + 1) % 2 ^ 32 in
    let next : end ≡ later_number s.una s.nxt end =
    sym (chosen (past s.nxt s.una) (past end s.una) s.nxt end end (λ le. refl) (λ lt. let reach : past end s.una ≡ 1 = omega (arith, una) in absurd (omega (arith, lt, reach, whole)))) in
    subst (λ n. Step cap limit c (record c {
      sending = Open (record s { nxt = n });
      frames = frame_of (sent_segment (head_of v Syn) (octets_of v Syn)) (length c.written) ∷ c.frames;
    })) next (emits_syn c s shows.sending unacked)

-- a stretch of what is held goes out, from its offset past SND.UNA on, and the FIN only behind all octets
pub emits-stretch : (cap limit : ℕ) (v : View) (c : Channel) (stretch : Stretch) → is_write_finished v.state ≡ false → IsHeld v stretch → SendsInto v c
    → Step cap limit c (record c {
      sending = Open (record (sender_of v) { nxt = later_number v.sending.una v.sending.nxt ((v.sending.una + end_of stretch) % 2 ^ 32) });
      frames = frame_of (sent_segment (head_of v (Text stretch)) (octets_of v (Text stretch))) (length c.written) ∷ c.frames;
    })
emits-stretch cap limit v c stretch unfinished is shows =
    let s = sender_of v in
    let before = take stretch.offset s.held in
    let octets = octets_of_stretch v stretch in
    let after = drop stretch.count (drop stretch.offset s.held) in
    let acked : s.syn_acked ≡ true = ap not is.opened in
    let first : length before ≡ stretch.offset = length-take stretch.offset s.held ∙ omega (arith, is.held) in
    let behind : length (drop stretch.offset s.held) ≡ length s.held - stretch.offset = length-drop stretch.offset s.held in
    let len : length octets ≡ stretch.count = length-take stretch.count (drop stretch.offset s.held) ∙ omega (arith, behind, is.held) in
    let cut : s.held ≡ (before ++ octets) ++ after =
    sym (take-append-drop stretch.offset s.held) ∙ (ap (λ l. before ++ l) (sym (take-append-drop stretch.count (drop stretch.offset s.held))) ∙ sym (append_assoc before octets after)) in
    let last : stretch.fin ≡ true → (c.closed ≡ true) × (after ≡ []) = λ e. let f = is.fin e in (
      shows.closed ∙ ap (λ b. b || is_write_finished v.state) f.0,
      no_octets after (length-drop stretch.count (drop stretch.offset s.held) ∙ omega (arith, behind, f.1)),
    ) in
    let reach : length before + span octets stretch.fin ≡ end_of stretch = omega (arith, first, len) in
    let step = emits_text c s before octets after stretch.fin shows.sending acked unfinished cut last in
    subst (λ n. Step cap limit c (record c {
      sending = Open (record s { nxt = later_number s.una s.nxt ((s.una + n) % 2 ^ 32) });
      frames = frame_of (sent_segment (head_of v (Text stretch)) (octets_of v (Text stretch))) (length c.written) ∷ c.frames;
    })) reach
    (subst (λ n. Step cap limit c (record c {
      sending = Open (record s { nxt = later_number s.una s.nxt ((s.una + (length before + span octets stretch.fin)) % 2 ^ 32) });
      frames = record { number = (s.una + n) % 2 ^ 32; octets = octets; syn = false; fin = stretch.fin; written_at = length c.written } ∷ c.frames;
    })) first step)

-- a probe is the stretch at SND.UNA
pub emits-probe : (cap limit : ℕ) (v : View) (c : Channel) → is_write_finished v.state ≡ false → v.sending.una < 2 ^ 32 → IsHeld v (probe_stretch v) → SendsInto v c
    → Step cap limit c (record c {
      sending = Open (record (sender_of v) { nxt = later_number v.sending.una v.sending.nxt ((v.sending.una + end_of (probe_stretch v)) % 2 ^ 32) });
      frames = frame_of (sent_segment (head_of v Probe) (octets_of v Probe)) (length c.written) ∷ c.frames;
    })
emits-probe cap limit v c unfinished una is shows =
    let stretch = probe_stretch v in
    let s = sender_of v in
    let number : (s.una + stretch.offset) % 2 ^ 32 ≡ s.una = ap (λ n. (s.una + n) % 2 ^ 32) (at_una (length v.sending.held == 0)) ∙ omega (arith, una) in
    subst (λ n. Step cap limit c (record c {
      sending = Open (record s { nxt = later_number s.una s.nxt ((s.una + end_of stretch) % 2 ^ 32) });
      frames = record { number = n; octets = octets_of_stretch v stretch; syn = false; fin = stretch.fin; written_at = length c.written } ∷ c.frames;
    })) number (emits-stretch cap limit v c stretch unfinished is shows)
  where
    alone : Stretch
    alone = record { offset = 0; count = 0; fin = true }

    oldest : Stretch
    oldest = record { offset = 0; count = 1; fin = false }

    at_una : (none : Bool) → (if none then alone else oldest).offset ≡ 0
    at_una true = refl
    at_una false = refl

-- An acknowledgement alone goes out at SND.NXT, or before it where only a probe took the number before.
pub emits-alone : (cap limit : ℕ) (v : View) (c : Channel) → IsSound v → is_closed v.state ≡ false → SendsInto v c
    → Step cap limit c (record c {
      sending = Open (sender_of v);
      frames = frame_of (sent_segment (head_of v AckAlone) (octets_of v AckAlone)) (length c.written) ∷ c.frames;
    })
emits-alone cap limit v c sound lives shows =
    by (Alone (bare_number v.sending)) v.sending.probed
    (λ probed. subst Alone (sym (bare_before v.sending probed)) (before (probed_is_open v sound lives probed)))
    (λ none. subst Alone (sym (bare_at_next v.sending none)) at_next)
  where
    Alone : ℕ → Type 0
    Alone n = Step cap limit c (record c {
      sending = Open (sender_of v);
      frames = record { number = n; octets = []; syn = false; fin = false; written_at = length c.written } ∷ c.frames;
    })

    at_next : Alone v.sending.nxt
    at_next =
        subst (λ x. Step cap limit c (record c { sending = x; frames = record { number = v.sending.nxt; octets = []; syn = false; fin = false; written_at = length c.written } ∷ c.frames }))
        shows.sending (emits_bare c (sender_of v) shows.sending)

    before : is_opening v.state ≡ false → Alone (number_before v.sending.nxt)
    before opened =
        subst (λ x. Step cap limit c (record c { sending = x; frames = record { number = number_before v.sending.nxt; octets = []; syn = false; fin = false; written_at = length c.written } ∷ c.frames }))
        shows.sending (emits_before c (sender_of v) shows.sending (ap not opened))

-- a segment with ACK acknowledges
pub emits-ack : (cap limit : ℕ) (v : View) (d : Channel) → is_syn_sent v.state ≡ false → ReceivesFrom v d
    → Step cap limit d (record d { acks = record { number = v.receiving.rnext; written_at = length d.written } ∷ d.acks })
emits-ack cap limit v d synchronised shows =
    emits_ack d (receiver_of v.receiving) (shows.receiving ∙ ap (λ b. if b then Waiting else Synchronised (receiver_of v.receiving)) synchronised)

-- the probe of a silent peer has the number before SND.NXT
pub emits-asks : (cap limit : ℕ) (v : View) (c : Channel) → is_opening v.state ≡ false → SendsInto v c
    → Step cap limit c (record c {
      sending = Open (sender_of v);
      frames = frame_of (sent_segment (head_of v KeepAlive) (octets_of v KeepAlive)) (length c.written) ∷ c.frames;
    })
emits-asks cap limit v c opened shows =
    subst (λ x. Step cap limit c (record c { sending = x; frames = frame_of (sent_segment (head_of v KeepAlive) (octets_of v KeepAlive)) (length c.written) ∷ c.frames })) shows.sending
    (emits_before c (sender_of v) shows.sending (ap not opened))
