use Rattle.std.proofs.Common.{◌≡◌, ℕ, ◌&&◌, ◌||◌, not, ◌==◌, nat_lt, Bool, if◌then◌else◌, refl, sym, ◌∙◌, ap, ap₂}
use Rattle.stream_buf.specs.Ranges.{covered}
use Rattle.tcp_state.specs.Selective.{with_blocks}
use Rattle.clock.specs.declared.moment.Moment.{Moment}
use Rattle.tcp_state.specs.declared.arrival.Before.{Before}
use Rattle.tcp_state.specs.View.{View}
use Rattle.tcp_halves.specs.Stream.{outstanding}
use Rattle.tcp_state.specs.Timing.{clocked}
use Rattle.tcp_state.specs.Congestion.{Signal, after_signal}
use Rattle.tcp_state.specs.Alive.{heard_now}
use Rattle.tcp_state.specs.Resend.{excused_by, gives_back}
use Rattle.tcp_state.specs.Arrival.{begins_wait, is_moved, resend_heard, resend_told, reported_by, told, reports_more, signal_of, congestion_event_of, resend_signalled, given_back, resend_left, congestion_left, guarded, timed_by}
use Rattle.tcp_state.proofs.Clocked.{heard_paced}
use Rattle.tcp_state.proofs.Congestion.{syn_kept}
use Rattle.tcp_state.proofs.connection.Connection.note_heard.Goals as goal
use Rattle.tcp_state.proofs.connection.Connection.note_heard.Goals.{then-starts_wait, else-starts_wait}

-- what a segment tells, once its progress is noted, and what it reports
abbrev signalled : Before → View → Bool → View
signalled b w more = let resend = excused_by b.needless (resend_signalled w.resend (signal_of b w more) w.congestion (outstanding w.sending)) in record w {
  resend = resend;
  congestion = given_back (gives_back b.needless resend) (after_signal w.congestion (signal_of b w more) w.sending.smss w.resend.syn_resent);
}

-- what it is to the congestion window depends on the ends of a recovery and of a probe of the tail, on how late octets came, and on what is reported alone, of all that is noted of what goes out again
abbrev event_at : Before → View → ℕ → ℕ → ℕ → Signal
event_at b w recover tail reach = signal_of b (record w { resend = record w.resend { recover = recover; tail = tail; reach = reach; reported = reported_by b w } }) (reports_more b w)

-- its progress, its signal, the wait that it begins, that the peer was heard, what guards against it, and then the clock
noted : (b : Before) (v progress reported signal waits hears guards : View) (moved more starts : Bool) (now : Moment) → progress ≡ record v { resend = resend_heard b v now } → reported ≡ told b progress → more ≡ reports_more b progress → signal ≡ signalled b reported more
    → waits ≡ record signal { since = if starts then now else signal.since } → hears ≡ record waits { alive = heard_now waits.alive now } → guards ≡ guarded b hears now → moved ≡ is_moved b v
    → starts ≡ (b.repeats_fin || begins_wait b.state signal.state || (signal.owes_reset && not b.owes_reset)) → clocked moved guards now ≡ timed_by b v now
noted b v progress reported signal waits hears guards moved more starts now progressed told_so more_so signals since heard guards_so moves begins =
    let w = record v { resend = resend_left b v now; congestion = congestion_left b v now } in
    let back = gives_back b.needless (resend_left b v now) in
    let heard_resend = resend_heard b v now in
    let read : View = record v { resend = resend_told b v now } in
    let same : heard_resend.reported ≡ v.resend.reported = heard_paced b v now (λ p. p.reported ≡ v.resend.reported) refl refl refl in
    let told_is : reported ≡ read = told_so ∙ ap (told b) progressed ∙ ap (λ rs. let x : View = record v { resend = record heard_resend { reported = with_blocks rs v.sending b.blocks } } in x) same in
    let more_is : more ≡ reports_more b v = more_so ∙ ap (reports_more b) progressed ∙ ap (λ rs. b.counts_reports && nat_lt (covered rs) (covered (with_blocks rs v.sending b.blocks))) same in
    let event : signal_of b read (reports_more b v) ≡ congestion_event_of b v = ap₂ (λ recover tail. event_at b v recover tail heard_resend.reach) (heard_paced b v now (λ p. p.recover ≡ v.resend.recover) refl refl refl) (heard_paced b v now (λ p. p.tail ≡ v.resend.tail) refl refl refl)
    ∙ ap (event_at b v v.resend.recover v.resend.tail) (heard_paced b v now (λ p. p.reach ≡ v.resend.reach) refl refl refl) in
    let signal_is : signal ≡ w = signals ∙ ap₂ (signalled b) told_is more_is
    ∙ ap (λ g. let resend = excused_by b.needless (resend_signalled (resend_told b v now) g v.congestion (outstanding v.sending)) in record v { resend = resend; congestion = given_back (gives_back b.needless resend) (after_signal v.congestion g v.sending.smss heard_resend.syn_resent) }) event
    ∙ ap (λ resent. record w { congestion = given_back back (after_signal v.congestion (congestion_event_of b v) v.sending.smss resent) }) (syn_kept b v now) in
    let starts_is = begins ∙ ap (λ (x : View). b.repeats_fin || begins_wait b.state x.state || (x.owes_reset && not b.owes_reset)) signal_is in
    let waits_is = since ∙ ap (λ (x : View). record x { since = if starts then now else x.since }) signal_is ∙ ap (λ t. record w { since = if t then now else v.since }) starts_is in
    ap (λ m. clocked m guards now) moves
    ∙ ap (λ x. clocked (is_moved b v) x now) (guards_so ∙ ap (λ x. guarded b x now) (heard ∙ ap (λ (x : View). record x { alive = heard_now x.alive now }) waits_is))

pub returns : goal.returns
returns c =
    let signal : View = c.note_news.new.self in
    let since : c.if-starts_wait.self ≡ record signal { since = if c.starts_wait.result then c.args.now else signal.since } =
    elim c.if-starts_wait.branch [
      | then-starts_wait w ↦ w.self-is ∙ (ap (λ (x : View). record x { since = c.args.now }) c.self-2.view_is ∙ ap (λ t. record signal { since = if t then c.args.now else signal.since }) (sym w.if-starts_wait.true))
      | else-starts_wait w ↦ w.self-is ∙ ap (λ t. record signal { since = if t then c.args.now else signal.since }) (sym w.if-starts_wait.false)
    ] in
    let moved : c.ne-moved.result ≡ is_moved c.args.before.now c.args.self.now =
    c.ne-moved.ensures ∙ ap (λ n. not (c.args.before.now.una.0 == n)) (c.una.ensures ∙ ap (λ (x : View). x.sending.una) c.self.view_is) in
    let starts = c.starts_wait.ensures
    ∙ ap (λ (x : View). c.args.before.now.repeats_fin || begins_wait c.args.before.now.state x.state || (x.owes_reset && not c.args.before.now.owes_reset)) c.self-2.view_is in
    c.update_timers.ensures
    ∙ noted c.args.before.now c.args.self.now c.note_progress.new.self c.note_reports-reports_more.new.self signal c.if-starts_wait.self c.note_peer.new.self c.note_guard.new.self c.ne-moved.result c.note_reports-reports_more.result c.starts_wait.result c.args.now
    c.note_progress.ensures c.note_reports-reports_more.ensures.after c.note_reports-reports_more.ensures.more c.note_news.ensures since c.note_peer.ensures c.note_guard.ensures moved starts
