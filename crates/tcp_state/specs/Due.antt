-- What goes out, and what that makes of a connection (RFC 9293 section 3.8).
use Rattle.std.specs.Prelude.{◌≡◌, ℕ, ◌+◌, ◌-◌, ◌*◌, ◌%◌, ◌^◌, ◌<◌, ◌≤◌, ◌==◌, ◌&&◌, ◌||◌, not, nat_lt, nat_le, min, Bool, true, false, if◌then◌else◌, List, [], length, take, drop, Option, Some, None, is_some}
use Rattle.std.specs.Option.{option_or}
use Rattle.tcp_segment.specs.declared.TheConstants.{MSS}
use Rattle.tcp_segment.specs.declared.flags.Flags.{Flags}
use Rattle.tcp_segment.specs.declared.head.Head.{Head}
use Rattle.tcp_segment.specs.Sent.{sent_offset, sent_octets}
use Rattle.tcp_state.specs.declared.emission.Due.{Due}
use Rattle.tcp_state.specs.declared.emission.Due.TheVariants.{Rst, Syn, Text, Probe, Ack, KeepAlive}
use Rattle.tcp_state.specs.declared.emission.Stretch.{Stretch}
use Rattle.clock.specs.declared.moment.Moment.{Moment}
use Rattle.tcp_state.specs.Resend.{resend_again, resend_sent, resend_probed, resend_syn_again}
use Rattle.tcp_halves.specs.declared.buffers.TheConstants.{CAPACITY}
use Rattle.tcp_halves.specs.Stream.{outstanding, after_sent, after_probed, bare_number, number_before, receive_window}
use Rattle.tcp_halves.specs.Windows.{open_window, next_count, has_grown, after_advertisement, window_field, after_syn_advertisement}
use Rattle.stream_buf.specs.Scoreboard.{first_gap, gap_len, reported_end}
use Rattle.tcp_state.specs.View.{View, is_opening, is_syn_sent, is_syn_received, is_closed, awaits_fin_ack}
use Rattle.tcp_state.specs.Selective.{repairs_gaps, loss_end, pipe, allowance}
use Rattle.tcp_state.specs.New.{sends_new, takes_fin, sends_fin}
use Rattle.tcp_state.specs.Timing.{probes, clocked}
use Rattle.tcp_state.specs.Alive.{may_rest, is_alive_due}
use Rattle.tcp_state.specs.Reporting.{blocks_of}

-- The segment that goes out for each thing that may be due.

-- a probe brings the oldest octet that is not acknowledged, or the FIN where none is
abbrev pub probe_stretch : View → Stretch
probe_stretch v = if length v.sending.held == 0 then record { offset = 0; count = 0; fin = true } else record { offset = 0; count = 1; fin = false }

-- how many numbers a stretch takes
abbrev pub numbers_of : Stretch → ℕ
numbers_of stretch = stretch.count + (if stretch.fin then 1 else 0)

-- the distance past SND.UNA of the number behind it
abbrev pub end_of : Stretch → ℕ
end_of stretch = stretch.offset + numbers_of stretch

-- PSH tells of the last octet that is held
abbrev pub flags_of_stretch : View → Stretch → Flags
flags_of_stretch v stretch = record {
  fin = stretch.fin;
  syn = false;
  rst = false;
  psh = nat_lt 0 stretch.count && (stretch.offset + stretch.count == length v.sending.held);
  ack = true;
  urg = false;
}

-- a reset goes out alone, and a SYN alone or acknowledging the peer's; every other segment acknowledges
abbrev pub flags_of : View → Due → Flags
flags_of v Rst = record { fin = false; syn = false; rst = true; psh = false; ack = false; urg = false }
flags_of v Syn = record { fin = false; syn = true; rst = false; psh = false; ack = is_syn_received v.state; urg = false }
flags_of v (Text stretch) = flags_of_stretch v stretch
flags_of v Probe = flags_of_stretch v (probe_stretch v)
flags_of v Ack = record { fin = false; syn = false; rst = false; psh = false; ack = true; urg = false }
flags_of v KeepAlive = record { fin = false; syn = false; rst = false; psh = false; ack = true; urg = false }

-- An acknowledgement alone, and the reset of an abort, stand at SND.NXT (section 3.10.7.4), or before what only a probe of a closed window took. A probe of a silent peer has the number before SND.NXT, which the peer's window
-- doesn't have any more, so that it answers (section 3.8.4).
abbrev pub number_of : View → Due → ℕ
number_of v Rst = bare_number v.sending
number_of v Syn = v.sending.una
number_of v (Text stretch) = (v.sending.una + stretch.offset) % 2 ^ 32
number_of v Probe = v.sending.una
number_of v Ack = bare_number v.sending
number_of v KeepAlive = number_before v.sending.nxt

abbrev pub octets_of_stretch : View → Stretch → List ℕ
octets_of_stretch v stretch = take stretch.count (drop stretch.offset v.sending.held)

abbrev pub octets_of : View → Due → List ℕ
octets_of v (Text stretch) = octets_of_stretch v stretch
octets_of v Probe = octets_of_stretch v (probe_stretch v)
octets_of v _ = []

-- The window up to the edge that is advertised with it: in units, and in octets where SYN stands, as many of them as 16 bits hold (RFC 7323 section 2.2). A reset has none.
abbrev pub window_of : View → Due → ℕ
window_of v Rst = 0
window_of v Syn = min (receive_window (after_syn_advertisement v.receiving)) CAPACITY
window_of v _ = window_field (after_advertisement v.receiving)

-- The header: the acknowledgement is RCV.NXT. Our SYN offers to scale windows and says that it takes selective acknowledgements where we would, and a SYN-ACK where the SYN did
-- (RFC 7323 section 2.2, RFC 2018 section 2).
abbrev pub head_of : View → Due → Head
head_of v due =
    let flags = flags_of v due in
    record {
      source = v.local.port;
      destination = v.peer.port;
      number = record { 0 = number_of v due };
      acknowledgement = record { 0 = if flags.ack then v.receiving.rnext else 0 };
      flags = flags;
      window = window_of v due;
      scales = v.scales;
      sacks = v.reporting.sacks;
      blocks = blocks_of v due;
    }

-- how many octets the segment has
abbrev pub emitted_len : View → Due → ℕ
emitted_len v due = 4 * sent_offset (head_of v due) + length (octets_of v due)

-- the octets of the segment
abbrev pub segment_octets : View → Due → List ℕ
segment_octets v due = sent_octets v.local.addr v.peer.addr (head_of v due) (octets_of v due)

-- it brings numbers that went out before, or is a probe
abbrev pub sends_again : View → Due → Bool
sends_again v Rst = false
sends_again v Syn = nat_lt 0 (outstanding v.sending)
sends_again v (Text stretch) = nat_lt stretch.offset (outstanding v.sending)
sends_again v Probe = true
sends_again v Ack = false
sends_again v KeepAlive = false

-- What it makes of the connection.

-- an acknowledgement that goes out advertises the window, and none is owed any more
abbrev pub after_ack_paid : View → View
after_ack_paid v = record v { receiving = after_advertisement v.receiving; owes_ack = false; delays_ack = false }

-- .. and a SYN-ACK advertises its own
abbrev pub after_syn_ack_paid : View → View
after_syn_ack_paid v = record v { receiving = after_syn_advertisement v.receiving; owes_ack = false; delays_ack = false }

-- a segment with ACK and without SYN went out: from then on the connection has spoken
abbrev pub after_speaking : View → View
after_speaking v = record (after_ack_paid v) { spoke = true }

-- .. and so it has where the probe of a silent peer did, which isn't told by it what is acknowledged: no acknowledgement is paid by one
abbrev pub after_asking : View → View
after_asking v = record v { receiving = after_advertisement v.receiving; spoke = true; alive = record v.alive { owed = false } }

-- so many numbers from SND.UNA on went out before, in part at least: once more
abbrev pub after_resent : View → ℕ → View
after_resent v end = let sending = after_sent v.sending end in
    record v { sending = sending; resend = resend_again v.resend end (outstanding sending) }

-- .. or now for the first time
abbrev pub after_first_sent : View → ℕ → Moment → View
after_first_sent v end now = let sending = after_sent v.sending end in
    record v { sending = sending; resend = resend_sent v.resend sending.nxt now }

-- what begins below SND.NXT went out before
abbrev pub after_numbers : View → ℕ → ℕ → Moment → View
after_numbers v offset end now = if nat_lt offset (outstanding v.sending) then after_resent v end else after_first_sent v end now

-- new octets that go out end the wait for more
abbrev pub after_new_octets : View → View
after_new_octets v = record v { resend = record v.resend { overridden = false }; timers = record v.timers { overriding = None } }

-- a small segment of new octets: it has fewer of them than one may
pub record IsSmall (v : View) (stretch : Stretch) : Type 0 where
  pub new : outstanding v.sending ≤ stretch.offset
  pub some : 0 < stretch.count
  pub few : stretch.count < v.sending.smss

-- where new octets go out in one, it is the last
abbrev pub small_with : View → Stretch → ℕ
small_with v stretch = if nat_lt stretch.count v.sending.smss then end_of stretch else v.resend.small

abbrev pub after_new_text : View → Stretch → View
after_new_text v stretch = let ended = after_new_octets v in record ended { resend = record ended.resend { small = small_with v stretch } }

abbrev pub brings_new_octets : View → Stretch → Bool
brings_new_octets v stretch = nat_lt 0 stretch.count && not (nat_lt stretch.offset (outstanding v.sending))

abbrev pub after_stretch : View → Stretch → Moment → View
after_stretch v stretch now =
    let sent = after_numbers v stretch.offset (end_of stretch) now in
    if brings_new_octets v stretch then after_new_text sent stretch else sent

abbrev pub after_probe : View → View
after_probe v =
    let stretch = probe_stretch v in
    let sent = record v { sending = after_probed v.sending (end_of stretch); resend = resend_probed v.resend } in
    if brings_new_octets v stretch then after_new_octets sent else sent

abbrev pub after_syn_again : View → View
after_syn_again v = record v { resend = resend_syn_again v.resend }

abbrev pub after_syn_out : View → Moment → View
after_syn_out v now = let sent = after_numbers v 0 1 now in if nat_lt 0 (outstanding v.sending) then after_syn_again sent else sent

-- .. without the timers
abbrev pub after_going_out : View → Due → Moment → View
after_going_out v Rst now = record v { owes_reset = false }
after_going_out v Syn now = if is_syn_received v.state then after_syn_ack_paid (after_syn_out v now) else after_syn_out v now
after_going_out v (Text stretch) now = after_speaking (after_stretch v stretch now)
after_going_out v Probe now = after_speaking (after_probe v)
after_going_out v Ack now = after_speaking v
after_going_out v KeepAlive now = after_asking v

abbrev pub after_emitted : View → Due → Moment → View
after_emitted v due now = clocked false (after_going_out v due now) now

-- Which segments may go out: the reset of an abort, the SYN while the connection opens, a stretch of the octets that are held and of the FIN behind them, at most as
-- many octets as one segment has room for, an acknowledgement once the peer's SYN came, until all is closed, and a probe of a silent peer while that may be waited for.
pub record IsHeld (v : View) (stretch : Stretch) : Type 0 where
  pub opened : is_opening v.state ≡ false
  pub joined : stretch.offset ≤ outstanding v.sending
  pub held : stretch.offset + stretch.count ≤ length v.sending.held
  pub size : stretch.count ≤ MSS
  pub some : 0 < numbers_of stretch
  pub fin : stretch.fin ≡ true → (awaits_fin_ack v.state ≡ true) × (stretch.offset + stretch.count ≡ length v.sending.held)

abbrev pub MayGoOut : View → Due → Type 0
MayGoOut v Rst = v.owes_reset ≡ true
MayGoOut v Syn = is_opening v.state ≡ true
MayGoOut v (Text stretch) = IsHeld v stretch
MayGoOut v Probe = IsHeld v (probe_stretch v)
MayGoOut v Ack = (is_syn_sent v.state || is_closed v.state) ≡ false
MayGoOut v KeepAlive = may_rest v.state ≡ true

-- Which of them goes out first.

-- an acknowledgement is owed, or the window to advertise has grown by enough to be told: past the opening, and once the connection has spoken, or what a listener opened
-- would answer its handshake by a window
abbrev pub is_ack_due : View → Bool
is_ack_due v = v.owes_ack || (not (is_opening v.state) && not (is_closed v.state) && v.spoke && has_grown v.receiving)

-- an acknowledgement alone, or else a probe of a silent peer
abbrev pub ack_due : View → Option Due
ack_due v = if is_ack_due v then Some Ack else if is_alive_due v then Some KeepAlive else None

-- What is outstanding from a place on, once more: one segment's octets, up to those that are reported, with the FIN where it follows them and has gone out.
abbrev pub again : View → ℕ → Stretch
again v mark =
    let count = gap_len v.resend.reported mark (min (min (length v.sending.held) (outstanding v.sending) - mark) v.sending.smss) in
    record { offset = mark; count = count; fin = (mark + count == length v.sending.held) && nat_lt (length v.sending.held) (outstanding v.sending) }

-- A place that isn't reported is taken for missing where it is lost; or, where nothing new may go out, where one behind it is reported (RFC 6675 section 4, NextSeg, rules 1 and 3).
abbrev pub is_missing : View → ℕ → Bool
is_missing v place = nat_lt place (loss_end v) || (nat_lt place (reported_end v.resend.reported) && not (sends_new v || sends_fin v))

-- In a recovery that reports rule, what is missing goes out again, within the peer's window, while the network takes one more segment (RFC 6675 section 5).
abbrev pub goes_by_reports : View → ℕ → Bool
goes_by_reports v place = is_missing v place && nat_lt place v.sending.window && nat_le (pipe v + v.sending.smss) v.congestion.cwnd

-- Else what goes out again stays within the lesser of the peer's window and the congestion window, but for what is at SND.UNA; and so does the first segment of a recovery.
abbrev pub goes_by_windows : View → ℕ → Bool
goes_by_windows v place = (place == 0) || nat_lt place (open_window v.sending v.congestion.cwnd)

abbrev pub goes_again : View → ℕ → Bool
goes_again v place =
    nat_lt place (outstanding v.sending)
    && (if repairs_gaps v && not v.resend.once then goes_by_reports v place else goes_by_windows v place)

-- the resend mark stands before it, and nothing but what is reported stands between
abbrev pub again_at : View → ℕ → ℕ
again_at v mark = first_gap v.resend.reported mark

abbrev pub again_from : View → Option ℕ → Option Due
again_from v None = None
again_from v (Some mark) = if goes_again v (again_at v mark) then Some (Text (again v (again_at v mark))) else None

-- the new octets of the next segment, and the FIN that goes with them
abbrev pub new_octets : View → Stretch
new_octets v =
    let count = next_count v.sending (allowance v) in
    record { offset = outstanding v.sending; count = count; fin = takes_fin v (outstanding v.sending + count) }

-- all that has not gone out, as much of it as one segment takes, and the FIN that goes with that
abbrev pub rest_of : View → Stretch
rest_of v =
    let count = min (length v.sending.held - outstanding v.sending) v.sending.smss in
    record { offset = outstanding v.sending; count = count; fin = takes_fin v (outstanding v.sending + count) }

-- the FIN behind all octets
abbrev pub fin_alone : View → Stretch
fin_alone v = record { offset = outstanding v.sending; count = 0; fin = true }

-- what is new, a probe, or an acknowledgement alone; it rides on whatever goes out
abbrev pub new_due : View → Option Due
new_due v =
    if sends_new v then Some (Text (new_octets v))
    else if sends_fin v then Some (Text (fin_alone v))
    else if v.resend.owes_probe && probes v then Some Probe
    else ack_due v

-- The reset of an abort is first, and after it nothing. While the connection opens, its SYN is due until it went out, and again where a mark stands before it. Later, what goes out again is before what
-- is new.
abbrev pub first_due : View → Option Due
first_due v =
    if v.owes_reset then Some Rst
    else if is_opening v.state then (if (outstanding v.sending == 0) || is_some v.resend.mark then Some Syn else ack_due v)
    else option_or (again_from v v.resend.mark) (new_due v)
