-- The reports of reassemblies that end with a minute: each goes out to the peer before all else, and is heard there as what changes nothing.
use Rattle.std.proofs.Common.{◌≡◌, ℕ, ◌≤◌, ◌&&◌, not, cond, Bool, true, false, List, [], ◌∷◌, length, take, position, Some, None, is_some, Ok, arith, refl, ◌∙◌, ap, subst, length-append, ◌+◌}
use Rattle.std.specs.List.{AllByRecursion, slice_get, remove}
use Rattle.std.proofs.lemmas.Bool.{lt-ltb}
use Rattle.clock.specs.declared.moment.Moment.{Moment}
use Rattle.ether.specs.declared.mac.Mac.{Mac}
use Rattle.ipv4.specs.declared.addr.Addr.{Addr}
use Rattle.icmp.specs.declared.error.Reason.TheVariants.{ReassemblyTimeExceeded}
use Rattle.icmp.specs.Message.{Message}
use Rattle.icmp.specs.Sent.{error_for}
use Rattle.frames.specs.declared.meaning.Meaning.TheVariants.{Icmp}
use Rattle.frames.specs.Heard.{MaySend}
use Rattle.frames.specs.Meaning.{heard}
use Rattle.frames.proofs.Carried.{messages_heard}
use Rattle.reassembly.specs.declared.expired.Expired.{Expired}
use Rattle.interface.specs.declared.reply.Reply.TheVariants.{Error}
use Rattle.interface.specs.declared.reply.Waiting.{Waiting}
use Rattle.interface.specs.declared.way.Way.{Way}
use Rattle.interface.specs.declared.way.Way.TheVariants.{To}
use Rattle.interface.specs.InterfaceView.{InterfaceView}
use Rattle.interface.specs.Emission.{head_to, message_frame_to, reply_frame, frame_by, frame_of_one, left_by as interface_left_by, way_of_one}
use Rattle.interface.specs.Replies.{is_full, way_of, goes_out, is_due, queued}
use Rattle.interface.specs.Sound.{IsSound, IsSoundError, IsSoundReply}
use Rattle.interface.specs.Ways.{is_routed, way}
use Rattle.sockets.specs.SocketsView.{later_moment}
use Rattle.host.specs.HostView.{HostView, with_interface}
use Rattle.host.specs.Emission.{Emission, Replies, emission, emission_at, emission_len, emission_octets, after_emission, len_of, octets_of, left_by}
use Rattle.host.specs.Messages.{Nothing, told_by}
use Rattle.host.specs.Ticks.{reported, all_reported}
use Rattle.host.proofs.Hearing.{error-frame, error-can}
use Rattle.round_law.proofs.Retained.{all_parts}

-- an error to this address, that the time of a reassembly ran out
abbrev pub IsReport : Addr → Waiting → Type 0
IsReport to r = (quoted : List ℕ) × (r.reply ≡ Error to ReassemblyTimeExceeded quoted)

-- Of the frame side only the replies that wait changed: they are reports to this address, so many at most.
pub record HasReported (to : Addr) (most : ℕ) (i j : InterfaceView) : Type 0 where
  pub same : j ≡ record i { replies = j.replies }
  pub all : AllByRecursion (IsReport to) j.replies
  pub few : length j.replies ≤ most

pub fewer : {to : Addr} {n : ℕ} {i j : InterfaceView} (most : ℕ) → n ≤ most → HasReported to n i j → HasReported to most i j
fewer most few r = record { same = r.same; all = r.all; few = omega (arith, few, r.few) }

one_reported : (moment : Moment) (to : Addr) (most : ℕ) (x : Expired) (i : InterfaceView) → x.key.source ≡ to → AllByRecursion (IsReport to) i.replies → length i.replies ≤ most → HasReported to (most + 1) i (reported moment i x)
one_reported moment to most x i source all few =
    by_room (is_routed i x.key.source && not (is_full i)) refl
  where
    by_room : (b : Bool) → (is_routed i x.key.source && not (is_full i)) ≡ b → HasReported to (most + 1) i (cond b (queued moment (Error x.key.source ReassemblyTimeExceeded (take 68 x.quote)) i) i)
    by_room false none = record { same = refl; all = all; few = omega (arith, few) }
    by_room true room =
        record {
          same = refl;
          all = all_parts (IsReport to) i.replies (record { since = moment; reply = Error x.key.source ReassemblyTimeExceeded (take 68 x.quote) } ∷ []) all ((take 68 x.quote, ap (λ (a : Addr). Error a ReassemblyTimeExceeded (take 68 x.quote)) source), tt);
          few = omega (arith, length-append i.replies (record { since = moment; reply = Error x.key.source ReassemblyTimeExceeded (take 68 x.quote) } ∷ []), few);
        }

pub reported_so : (moment : Moment) (to : Addr) (most : ℕ) (xs : List Expired) (i : InterfaceView) → AllByRecursion (λ (x : Expired). x.key.source ≡ to) xs → AllByRecursion (IsReport to) i.replies → length i.replies ≤ most → HasReported to (most + length xs) i (all_reported moment i xs)
reported_so moment to most [] i from all few = record { same = refl; all = all; few = omega (arith, few) }
reported_so moment to most (x ∷ xs) i from all few =
    let one = one_reported moment to most x i from.0 all few in
    let more = reported_so moment to (most + 1) xs (reported moment i x) from.1 one.all one.few in
    record { same = more.same ∙ ap (λ (k : InterfaceView). record k { replies = let j = all_reported moment (reported moment i x) xs in j.replies }) one.same; all = more.all; few = omega (arith, more.few) }

-- A frame is heard, at this MAC and address, as a message from another address that changes nothing.
abbrev pub Reports : Mac → Addr → Addr → List ℕ → Type 0
Reports mac to source octets = (m : Message) × (heard mac to octets ≡ Ok (Icmp (record { source = source; message = m }))) × (told_by m ≡ Nothing)

report_heard : (i : InterfaceView) (mac : Mac) (to : Addr) (quoted : List ℕ) → IsSound i → IsSoundError to quoted → length mac.0 ≡ 6 → MaySend to i.addr
    → heard mac to (reply_frame i mac (Error to ReassemblyTimeExceeded quoted)) ≡ Ok (Icmp (record { source = i.addr; message = error_for ReassemblyTimeExceeded quoted [] }))
unfolding message_frame_to
report_heard i mac to quoted sound solid whole may =
    let can = error-can i mac to ReassemblyTimeExceeded quoted sound solid whole in
    ap (heard mac to) (error-frame i mac to ReassemblyTimeExceeded quoted)
    ∙ messages_heard (head_to i mac to) (error_for ReassemblyTimeExceeded quoted []) can.spelled sound.addr solid.addr whole sound.mac may can.most

-- The first one goes out.

first_place : {X : Type 0} (test : X → Bool) (x : X) (xs : List X) → test x ≡ true → position test (x ∷ xs) ≡ Some 0
first_place test x xs passes = rw passes (ap (λ b. cond b (Some 0) None) (lt-ltb 0 (length (x ∷ xs)) (omega arith)))

module _ (h : HostView) (now : Moment) (to : Addr) (mac : Mac) (r : Waiting) (rest : List Waiting) (waits : h.interface.replies ≡ r ∷ rest) (report : IsReport to r) (leads : way h.interface (later_moment h.sockets now) to ≡ To mac) where
  abbrev moment : Moment
  moment = later_moment h.sockets now

  way_is : way_of h.interface moment r.reply ≡ To mac
  way_is = ap (way_of h.interface moment) report.1 ∙ leads

  goes : emission h moment ≡ Replies 0
  goes =
      ap (λ (l : List Waiting). emission_at h moment (position (is_due h.interface moment) l)) waits
      ∙ ap (emission_at h moment) (first_place (is_due h.interface moment) r rest (ap goes_out way_is))

  pub report_there : is_some (emission_len h now) ≡ true
  report_there = ap (λ (e : Emission). is_some (len_of h moment e)) goes

  report_frame : emission_octets h now ≡ reply_frame h.interface mac (Error to ReassemblyTimeExceeded report.0)
  report_frame =
      ap (octets_of h moment) goes
      ∙ (ap (λ (l : List Waiting). frame_of_one h.interface moment (slice_get l 0)) waits
      ∙ (ap (λ (w : Way). frame_by h.interface r.reply w) way_is ∙ ap (reply_frame h.interface mac) report.1))

  pub report_left : after_emission h now ≡ with_interface h (record h.interface { replies = rest })
  report_left =
      ap (left_by h moment) goes
      ∙ ap (with_interface h) (ap (λ (l : List Waiting). interface_left_by h.interface moment 0 (way_of_one h.interface moment (slice_get l 0))) waits
      ∙ (ap (interface_left_by h.interface moment 0) way_is ∙ ap (λ (l : List Waiting). record h.interface { replies = remove l 0 }) waits))

  pub report_out : IsSound h.interface → length mac.0 ≡ 6 → MaySend to h.interface.addr → Reports mac to h.interface.addr (emission_octets h now)
  report_out sound whole may =
      let replies = subst (λ (l : List Waiting). AllByRecursion (λ (w : Waiting). IsSoundReply h.interface.addr w.reply) l) waits sound.replies in
      let solid : IsSoundError to report.0 = subst (IsSoundReply h.interface.addr) report.1 replies.0 in
      (error_for ReassemblyTimeExceeded report.0 [], ap (heard mac to) report_frame ∙ report_heard h.interface mac to report.0 sound solid whole may, refl)
