-- Each position below SND.NXT went out in a frame.
use Rattle.std.proofs.Common.{◌≡◌, ◌⊎◌, ℕ, ◌+◌, ◌-◌, ◌<◌, ◌≤◌, ◌^◌, ◌%◌, ◌==◌, ◌||◌, nat_le, if◌then◌else◌, true, false, Bool, List, [], ◌∷◌, length, drop, take, Option, Some, None, is_some, inl, inr, refl, sym, ◌∙◌, ap, subst, arith, length-drop}
use Rattle.std.proofs.lemmas.Bool.Decides.{leb_tells}
use Rattle.std.proofs.lemmas.List.{length-take}
use Rattle.clock.specs.declared.moment.Moment.{Moment}
use Rattle.tcp_segment.specs.Segment.{Segment, span_of, bit}
use Rattle.tcp_segment.specs.Sent.{sent_segment}
use Rattle.tcp_segment.specs.Wire.{past}
use Rattle.tcp_halves.specs.Halves.{Sending}
use Rattle.tcp_halves.specs.Stream.{outstanding, after_sent}
use Rattle.tcp_halves.specs.Windows.{updates_window}
use Rattle.tcp_halves.proofs.Choices.{either}
use Rattle.tcp_state.specs.declared.emission.Due.{Due}
use Rattle.tcp_state.specs.declared.emission.Due.TheVariants.{Rst, Syn, Text, Probe, Ack, KeepAlive}
use Rattle.tcp_state.specs.declared.emission.Stretch.{Stretch}
use Rattle.tcp_state.specs.Arrival.{after_ack, after_window, after_segment_at}
use Rattle.tcp_state.specs.Calls.{with_octets, after_send, after_recv, aborted_at, after_shutdown, after_release, is_removed_by_close, is_aborted_by_close, after_close, send_count}
use Rattle.tcp_state.specs.Due.{IsHeld, MayGoOut, first_due, head_of, octets_of, octets_of_stretch, probe_stretch, end_of, after_emitted, after_syn_ack_paid, after_syn_out}
use Rattle.tcp_state.specs.Edges.{after_first}
use Rattle.tcp_state.specs.Timing.{clocked}
use Rattle.tcp_state.specs.View.{View, IsSound, is_closed, is_opening, is_syn_received, is_write_closed}
use Rattle.tcp_state.proofs.Emissions.{syn_sends, stretch_sends, probe_sends}
use Rattle.tcp_state.proofs.Events.{holding}
use Rattle.tcp_state.proofs.GoesOut.{due-may}
use Rattle.tcp_state.proofs.Segments.{after_reading, by_ack, by_hearing, by_clock, reading_sends}
use Rattle.sockets.specs.declared.entry.SocketId.{SocketId}
use Rattle.host.specs.ConfigView.{ConfigView}
use Rattle.host.specs.HostView.{new_host}
use Rattle.host_law.specs.Going.{Takes}
use Rattle.host_law.specs.History.{Step, Once, connection_of}
use Rattle.host_law.specs.HostLaw.{WentOut}
use Rattle.host_law.specs.Positions.{let_go, snd_una}
use Rattle.host_law.proofs.Befalls as befalls
use Rattle.host_law.proofs.Befalls.{Befalls, FitsWidths, IsOfConnection, IsOut}
use Rattle.host_law.proofs.Sending.{nobody, one_view}
use Rattle.host_law.proofs.SendingHalf as half
use Rattle.host_law.proofs.SendingOut.{held_few}

-- Nothing but what goes out moves SND.NXT.

-- a segment that comes
abbrev Kept : View → View → Type 0
Kept v w = (w.sending.nxt ≡ v.sending.nxt) × (w.sending.una < 2 ^ 32)

heard : (v : View) (s : Segment) (now : Moment) → IsSound v → s.acknowledgement < 2 ^ 32 → Kept v (after_segment_at v s now)
heard v s now sound fits =
    let P : View → Type 0 = Kept v in
    let here : P v = (refl, sound.una) in
    let acked : P (after_ack v s.acknowledgement) = by_ack P v s.acknowledgement (record {
      old = here;
      beyond = here;
      opens = λ received new. (refl, sound.nxt);
      octets = λ new. (refl, fits);
      fin = λ new fin. (refl, fits);
    }) in
    let told = after_window (after_ack v s.acknowledgement) s in
    let window : P told = either Sending (λ t. (t.nxt ≡ v.sending.nxt) × (t.una < 2 ^ 32)) (updates_window (after_ack v s.acknowledgement).sending s.number s.acknowledgement) _ (after_ack v s.acknowledgement).sending (λ newer. acked) (λ older. acked) in
    let read : (w : View) → w.sending ≡ told.sending → P w = λ w same. subst (λ (t : Sending). (t.nxt ≡ v.sending.nxt) × (t.una < 2 ^ 32)) (sym same) window in
    let nxt = sound.nxt in
    let kept = window.0 in
    by_clock P v s now here (λ lives. by_hearing P v s (kept, omega (arith, kept, nxt)) (record {
      dropped = here;
      drawn = here;
      reset = λ acts. (refl, sound.nxt);
      crossed = λ waits. here;
      opened = λ waits right. (refl, sound.nxt);
      acknowledged = λ taken. acked;
      read = λ on. read (after_reading v s) (reading_sends v s);
    }))

-- What goes out moves it to the end of what the segment takes.

reached : (s : Sending) (end at : ℕ) → s.una < 2 ^ 32 → s.nxt < 2 ^ 32 → end < 2 ^ 32 → at < outstanding (after_sent s end) → outstanding s ≤ at → at < end
reached s end at una nxt small =
    let behind : past ((s.una + end) % 2 ^ 32) s.una ≡ end = omega (arith, una, small) in
    either ℕ (λ n. at < past n s.una → past s.nxt s.una ≤ at → at < end) (nat_le (past s.nxt s.una) (past ((s.una + end) % 2 ^ 32) s.una)) ((s.una + end) % 2 ^ 32) s.nxt
    (λ later below above. omega (arith, behind, below)) (λ earlier below above. absurd (omega (arith, below, above)))

-- a segment with this head and these octets takes the position that lies so far past SND.UNA
record Spans (v : View) (due : Due) (at : ℕ) : Type 0 where
  pub first : past (sent_segment (head_of v due) (octets_of v due)).number v.sending.una ≤ at
  pub last : at < past (sent_segment (head_of v due) (octets_of v due)).number v.sending.una + span_of (sent_segment (head_of v due) (octets_of v due))

abbrev New : View → Due → View → Type 0
New v due w = (at : ℕ) → at < past w.sending.nxt v.sending.una → outstanding v.sending ≤ at → Spans v due at

none_new : (v w : View) (due : Due) → w.sending.nxt ≡ v.sending.nxt → New v due w
none_new v w due same at below above = let one : past w.sending.nxt v.sending.una ≡ outstanding v.sending = ap (λ n. past n v.sending.una) same in absurd (omega (arith, one, below, above))

-- those of a stretch
stretch_new : (v w : View) (due : Due) (stretch : Stretch) → IsSound v → IsHeld v stretch → w.sending.nxt ≡ (after_sent v.sending (end_of stretch)).nxt → (head_of v due).number.0 ≡ (v.sending.una + stretch.offset) % 2 ^ 32 → octets_of v due ≡ octets_of_stretch v stretch
    → (head_of v due).flags.fin ≡ stretch.fin → (head_of v due).flags.syn ≡ false → New v due w
stretch_new v w due stretch sound held sends number octets fin syn at below above =
    let few = held_few v sound in
    let all = held.held in
    let len : length (octets_of v due) ≡ stretch.count = ap length octets ∙ length-take stretch.count (drop stretch.offset v.sending.held) ∙ omega (arith, length-drop stretch.offset v.sending.held, all) in
    let ends = one_at_most stretch.fin in
    let small : end_of stretch < 2 ^ 32 = omega (arith, few, all, ends) in
    let within : at < end_of stretch = reached v.sending (end_of stretch) at sound.una sound.nxt small (subst (λ nxt. at < past nxt v.sending.una) sends below) above in
    let place : past (head_of v due).number.0 v.sending.una ≡ stretch.offset = (let bound = sound.una in omega (arith, bound, number, few, all)) in
    let joined = held.joined in
    let span : span_of (sent_segment (head_of v due) (octets_of v due)) ≡ stretch.count + (if stretch.fin then 1 else 0) = spans (head_of v due).flags.syn (head_of v due).flags.fin stretch.fin (length (octets_of v due)) stretch.count syn fin len in
    record { first = omega (arith, place, joined, above); last = omega (arith, place, span, within) }
  where
    one_at_most : (b : Bool) → (if b then 1 else 0) ≤ 1
    one_at_most true = omega arith
    one_at_most false = omega arith

    spans : (syn fin ends : Bool) (n count : ℕ) → syn ≡ false → fin ≡ ends → n ≡ count → n + bit syn 1 + bit fin 1 ≡ count + (if ends then 1 else 0)
    spans false true true n count s f len = omega (arith, len)
    spans false false false n count s f len = omega (arith, len)
    spans false true false n count s f len = cc
    spans false false true n count s f len = cc
    spans true fin ends n count s f len = cc

syn_new : (v w : View) → IsSound v → w.sending ≡ after_sent v.sending 1 → New v Syn w
syn_new v w sound sends at below above =
    let within : at < 1 = reached v.sending 1 at sound.una sound.nxt (omega arith) (subst (λ (t : Sending). at < past t.nxt v.sending.una) sends below) above in
    let bound = sound.una in
    let place : past v.sending.una v.sending.una ≡ 0 = omega (arith, bound) in
    record { first = omega (arith, place); last = omega (arith, place, within) }

emitted_new : (v : View) (due : Due) (now : Moment) → IsSound v → MayGoOut v due → New v due (after_emitted v due now)
emitted_new v Rst now sound may = none_new v (after_emitted v Rst now) Rst refl
emitted_new v Syn now sound may =
    let sent = after_syn_out v now in
    syn_new v (after_emitted v Syn now) sound (either View (λ w. w.sending ≡ after_sent v.sending 1) (is_syn_received v.state) (after_syn_ack_paid sent) sent (λ received. syn_sends v now) (λ waits. syn_sends v now))
emitted_new v (Text stretch) now sound may = stretch_new v (after_emitted v (Text stretch) now) (Text stretch) stretch sound may (ap (λ (t : Sending). t.nxt) (stretch_sends v stretch now)) refl refl refl refl
emitted_new v Probe now sound may =
    let none : (probe_stretch v).offset ≡ 0 = either Stretch (λ t. t.offset ≡ 0) (length v.sending.held == 0) (record { offset = 0; count = 0; fin = true }) (record { offset = 0; count = 1; fin = false }) (λ none. refl) (λ some. refl) in
    let bound = sound.una in
    let number : v.sending.una ≡ (v.sending.una + (probe_stretch v).offset) % 2 ^ 32 = omega (arith, bound, none) in
    stretch_new v (after_emitted v Probe now) Probe (probe_stretch v) sound may (ap (λ (t : Sending). t.nxt) (probe_sends v)) number refl refl refl
emitted_new v Ack now sound may = none_new v (after_emitted v Ack now) Ack refl
emitted_new v KeepAlive now sound may = none_new v (after_emitted v KeepAlive now) KeepAlive refl

-- Over the steps of a host.

pub none_out : (c : ConfigView) (id : SocketId) → WentOut c id (new_host c) []
none_out c id = record { una = λ position below. absurd (omega (arith, below)); nxt = λ v is. absurd (nobody (connection_of id (new_host c)) v refl is) }

module _ (c : ConfigView) (id : SocketId) (step : Step) (earlier : List Step) where
  abbrev steps : List Step
  steps = step ∷ earlier

  abbrev una : ℕ
  una = snd_una id earlier

  position_of : (o p : Option View) → connection_of id step.before ≡ o → connection_of id step.after ≡ p → snd_una id steps ≡ una + let_go o p
  position_of o p before after = ap (λ x. una + let_go x (connection_of id step.after)) before ∙ ap (λ x. una + let_go o x) after

  -- of a connection that lives on what lies below SND.NXT lay there before, or goes out
  abbrev Advances : View → View → Type 0
  Advances v w = is_closed w.state ≡ false → (is_closed v.state ≡ false) × ((at : ℕ) → at < past w.sending.una v.sending.una + outstanding w.sending → (at < outstanding v.sending) ⊎ Takes c id (una + at) step earlier)

  on : (v w : View) → connection_of id step.before ≡ Some v → connection_of id step.after ≡ Some w → Advances v w → WentOut c id step.before earlier → WentOut c id step.after steps
  on v w before after advances was = record {
    una = λ position below. by_closed (is_closed w.state) refl position below;
    nxt = λ x is lives position below. let same : w ≡ x = one_view (connection_of id step.after) w x after is in
        living (subst (λ (y : View). is_closed y.state ≡ false) (sym same) lives) position (subst (λ (y : View). position < snd_una id steps + outstanding y.sending) (sym same) below);
  }
    where
      moved : snd_una id steps ≡ una + let_go (Some v) (Some w)
      moved = position_of (Some v) (Some w) before after

      living : is_closed w.state ≡ false → (position : ℕ) → position < snd_una id steps + outstanding w.sending → Once (Takes c id position) steps
      living lives position below =
          let far : let_go (Some v) (Some w) ≡ past w.sending.una v.sending.una = ap (λ b. if b then 0 else past w.sending.una v.sending.una) lives in
          let goes = advances lives in
          elim (leb_tells una position) [
            | inl t ↦
                let some : una + (position - una) ≡ position = (let past_it = t.1 in omega (arith, past_it)) in
                elim (goes.1 (position - una) (let past_it = t.1 in omega (arith, moved, far, below, past_it))) [
                  | inl lay ↦ inr (was.nxt v before goes.0 position (omega (arith, some, lay)))
                  | inr takes ↦ inl (subst (λ n. Takes c id n step earlier) some takes)
                ]
            | inr t ↦ inr (was.una position (let under = t.1 in omega (arith, under)))
          ]

      by_closed : (closed : Bool) → is_closed w.state ≡ closed → (position : ℕ) → position < snd_una id steps → Once (Takes c id position) steps
      by_closed true ends position below = let none : let_go (Some v) (Some w) ≡ 0 = ap (λ b. if b then 0 else past w.sending.una v.sending.una) ends in inr (was.una position (omega (arith, moved, none, below)))
      by_closed false lives position below = living lives position (omega (arith, below))

  -- SND.UNA and SND.NXT stay
  rests : (v w : View) → connection_of id step.before ≡ Some v → connection_of id step.after ≡ Some w → IsSound v → (is_closed w.state ≡ false → (is_closed v.state ≡ false) × (w.sending.una ≡ v.sending.una) × (w.sending.nxt ≡ v.sending.nxt))
      → WentOut c id step.before earlier → WentOut c id step.after steps
  rests v w before after sound same = on v w before after (λ lives.
      let k = same lives in
      let bound = sound.una in
      let una_same = k.1 in
      let none : past w.sending.una v.sending.una ≡ 0 = omega (arith, bound, una_same) in
      let out : outstanding w.sending ≡ outstanding v.sending = ap (λ n. past n w.sending.una) k.2 ∙ ap (λ n. past v.sending.nxt n) una_same in
      (k.0, λ at below. inl (omega (arith, none, out, below))))

  -- there was none
  begins : (w : View) → connection_of id step.before ≡ None → connection_of id step.after ≡ Some w → outstanding w.sending ≡ 0 → WentOut c id step.before earlier → WentOut c id step.after steps
  begins w before after none was =
      let moved : snd_una id steps ≡ una + 0 = position_of None (Some w) before after in
      record {
        una = λ position below. inr (was.una position (omega (arith, moved, below)));
        nxt = λ x is lives position below. let same : w ≡ x = one_view (connection_of id step.after) w x after is in
            let few : outstanding x.sending ≡ 0 = subst (λ (y : View). outstanding y.sending ≡ 0) same none in inr (was.una position (omega (arith, moved, few, below)));
      }

  ends : (o : Option View) → connection_of id step.before ≡ o → connection_of id step.after ≡ None → let_go o None ≡ 0 → WentOut c id step.before earlier → WentOut c id step.after steps
  ends o before after none was =
      let moved : snd_una id steps ≡ una + let_go o None = position_of o None before after in
      record {
        una = λ position below. inr (was.una position (omega (arith, moved, none, below)));
        nxt = λ x is. absurd (nobody (connection_of id step.after) x after is);
      }

  goes_out : (v : View) (due : Due) → connection_of id step.before ≡ Some v → is_closed v.state ≡ false → IsOut c v due step → (at : ℕ) → Spans v due at → Takes c id (una + at) step earlier
  goes_out v due before lives out at spans =
      let from = spans.first in
      let to = spans.last in
      record {
        to = v.peer.addr;
        s = sent_segment (head_of v due) (octets_of v due);
        v = v;
        goes = out.goes;
        connection = before;
        lives = lives;
        local = ap (λ a. record v.local { addr = a }) out.own;
        peer = refl;
        first = omega (arith, from);
        last = omega (arith, to);
      }

  emits : (v : View) (now : Moment) → connection_of id step.before ≡ Some v → connection_of id step.after ≡ Some (after_first v (first_due v) now) → IsSound v → ((due : Due) → first_due v ≡ Some due → IsOut c v due step)
      → WentOut c id step.before earlier → WentOut c id step.after steps
  emits v now before after sound out = on v w before after (λ lives.
      let k = half.emits v now sound lives in
      let none = k.still in
      let same = half.emitted_una v now in
      let alive = k.makes in
      (alive.lives, λ at below. by_due alive.lives (first_due v) refl none same at below))
    where
      w : View
      w = after_first v (first_due v) now

      by_due : is_closed v.state ≡ false → (o : Option Due) → first_due v ≡ o → past w.sending.una v.sending.una ≡ 0 → w.sending.una ≡ v.sending.una → (at : ℕ) → at < past w.sending.una v.sending.una + outstanding w.sending → (at < outstanding v.sending) ⊎ Takes c id (una + at) step earlier
      by_due lives None first none same at below = inl (subst (λ (x : View). at < outstanding x.sending) (ap (λ o. after_first v o now) first) (omega (arith, none, below)))
      by_due lives (Some due) first none same at below =
          let out_now : past w.sending.nxt v.sending.una ≡ outstanding w.sending = ap (λ n. past w.sending.nxt n) (sym same) in
          elim (leb_tells (outstanding v.sending) at) [
            | inl t ↦ inr (goes_out v due before lives (out due first) at (emitted_new v due now sound (due-may v due sound first) at (subst (λ (x : View). at < past x.sending.nxt v.sending.una) (ap (λ o. after_first v o now) first) (omega (arith, none, out_now, below))) t.1))
            | inr t ↦ inl (let under = t.1 in omega (arith, under))
          ]

  hears : (v : View) (s : Segment) (now : Moment) → connection_of id step.before ≡ Some v → connection_of id step.after ≡ Some (after_segment_at v s now) → IsSound v → s.acknowledgement < 2 ^ 32
      → WentOut c id step.before earlier → WentOut c id step.after steps
  hears v s now before after sound fits = on v w before after (λ lives.
      let h = half.hears v s now sound lives in
      let kept = heard v s now sound fits in
      let alive = h.makes in
      let reach : past w.sending.una v.sending.una ≤ outstanding v.sending = elim h.confirms [ inl still ↦ omega (arith, still) | inr confirms ↦ let most = confirms.0.sent in let far = confirms.1 in omega (arith, most, far) ] in
      let a = sound.una in let b = sound.nxt in let d = kept.1 in
      let all : past w.sending.una v.sending.una + past v.sending.nxt w.sending.una ≡ outstanding v.sending = parts v.sending.una v.sending.nxt w.sending.una a b d reach in
      let out : outstanding w.sending ≡ past v.sending.nxt w.sending.una = ap (λ n. past n w.sending.una) kept.0 in
      (alive.lives, λ at below. inl (omega (arith, all, out, below))))
    where
      w : View
      w = after_segment_at v s now

      parts : (una nxt ack : ℕ) → una < 2 ^ 32 → nxt < 2 ^ 32 → ack < 2 ^ 32 → past ack una ≤ past nxt una → past ack una + past nxt ack ≡ past nxt una
      parts una nxt ack a b d reach = omega (arith, a, b, d, reach)

  by_what : (o p : Option View) → connection_of id step.before ≡ o → connection_of id step.after ≡ p → Befalls c id step o p → IsOfConnection c id step → WentOut c id step.before earlier → WentOut c id step.after steps
  by_what _ _ before after (befalls.absent untold gone) is = ends None before after refl
  by_what _ _ before after (befalls.connects room local peer isn now small untold fresh) is = begins _ before after (omega (arith, small))
  by_what _ _ before after (befalls.accepts room local peer isn s now small untold fresh opened) is = begins _ before after (omega (arith, small))
  by_what _ _ before after (befalls.quietly v w untold quiet) is =
      rests v w before after (is.sound v before) (λ lives. let k = half.quiet v w quiet lives in (sym (ap is_closed k.state) ∙ lives, ap (λ (t : Sending). t.una) k.sending, ap (λ (t : Sending). t.nxt) k.sending))
  by_what _ _ before after (befalls.hears v s now untold comes) is = hears v s now before after (is.sound v before) (is.fits v s comes).acknowledgement
  by_what _ _ before after (befalls.emits v now untold out) is = emits v now before after (is.sound v before) out
  by_what _ _ before after (befalls.sends v octets now may taken read ended) is =
      rests v (after_send v octets now) before after (is.sound v before) (λ lives. let k = taken_on v octets now in (sym (ap is_closed (half.sends_state v octets now)) ∙ lives, k.0, k.1))
    where
      taken_on : (v : View) (octets : List ℕ) (now : Moment) → ((after_send v octets now).sending.una ≡ v.sending.una) × ((after_send v octets now).sending.nxt ≡ v.sending.nxt)
      taken_on v octets now =
          let P : View → Type 0 = λ w. (w.sending.una ≡ v.sending.una) × (w.sending.nxt ≡ v.sending.nxt) in
          let more = take (send_count v octets) octets in
          either View P (is_some v.pending_error || is_opening v.state || is_write_closed v.state) v (with_octets v more now) (λ refused. (refl, refl))
          (λ taken. either View P (length more == 0) v (clocked false (holding v more) now) (λ none. (refl, refl)) (λ some. (refl, refl)))
  by_what _ _ before after (befalls.reads v len may unreleased sent read ended) is =
      rests v (after_recv v len) before after (is.sound v before) (λ lives. let k = half.receives v len in (sym (ap is_closed k.state) ∙ lives, ap (λ (t : Sending). t.una) k.sending, ap (λ (t : Sending). t.nxt) k.sending))
  by_what _ _ before after (befalls.shuts v now untold closed may) is = rests v (after_shutdown v now) before after (is.sound v before) (λ lives. let k = half.shuts v now (is.sound v before) lives in let m = k.makes in (m.lives, refl, refl))
  by_what _ _ before after (befalls.closes v now untold closed) is = rests v (after_close v now) before after (is.sound v before) (λ lives. let k = half.closes v now (is.sound v before) lives in let m = k.makes in let left = left_on v now lives in (m.lives, left.0, left.1))
    where
      left_on : (v : View) (now : Moment) → is_closed (after_close v now).state ≡ false → ((after_close v now).sending.una ≡ v.sending.una) × ((after_close v now).sending.nxt ≡ v.sending.nxt)
      left_on v now =
          let P : View → Type 0 = λ w. is_closed w.state ≡ false → (w.sending.una ≡ v.sending.una) × (w.sending.nxt ≡ v.sending.nxt) in
          either View P (is_removed_by_close v) v _ (λ removed lives. (refl, refl))
          (λ stays. either View P (is_aborted_by_close v) (aborted_at v now) (after_release v now) (λ aborted lives. cc) (λ released lives. (refl, refl)))
  by_what _ _ before after (befalls.leaves v untold gone) is = ends (Some v) before after refl

  pub keeps_out : IsOfConnection c id step → WentOut c id step.before earlier → WentOut c id step.after steps
  keeps_out is was = by_what (connection_of id step.before) (connection_of id step.after) refl refl is.befalls is was
