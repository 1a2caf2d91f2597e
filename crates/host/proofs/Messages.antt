-- Who hears an ICMP message in what goes out, and what it answers.
use Rattle.std.proofs.Common.{◌≡◌, ◌≢◌, ℕ, List, [], append-nil, Option, Some, None, Ok, refl, sym, ◌∙◌, ap, subst, arith}
use Rattle.std.specs.List.{slice_get}
use Rattle.ether.specs.declared.mac.Mac.{Mac}
use Rattle.ipv4.specs.declared.addr.Addr.{Addr}
use Rattle.ipv4.specs.Datagram.{Datagram, header_octets}
use Rattle.clock.specs.declared.moment.Moment.{Moment}
use Rattle.icmp.specs.declared.error.Reason.{Reason}
use Rattle.icmp.specs.declared.error.Reason.TheVariants.{NetUnreachable, HostUnreachable, ProtocolUnreachable, PortUnreachable, FragmentationNeeded, SourceRouteFailed, TransitTimeExceeded, ReassemblyTimeExceeded}
use Rattle.icmp.specs.Errors.{code_of, kind_of}
use Rattle.icmp.specs.Message.{Message, IsEchoRequest, spelling}
use Rattle.icmp.specs.Sent.{RepliesTo, echo_reply, error_for, sent}
use Rattle.frames.specs.declared.meaning.Control.{Control}
use Rattle.frames.specs.declared.meaning.Meaning.{Meaning}
use Rattle.frames.specs.declared.meaning.Meaning.TheVariants.{Icmp}
use Rattle.frames.specs.Meaning.{heard}
use Rattle.interface.specs.declared.reply.Reply.{Reply}
use Rattle.interface.specs.declared.reply.Reply.TheVariants.{Arp, Reset, Echo, Error}
use Rattle.interface.specs.declared.reply.Waiting.{Waiting}
use Rattle.interface.specs.declared.way.Way.{Way}
use Rattle.interface.specs.declared.way.Way.TheVariants.{To, Ask, Waits}
use Rattle.interface.specs.InterfaceView.{InterfaceView}
use Rattle.interface.specs.Emission.{message_frame_to, frame_by, frame_of_one}
use Rattle.interface.specs.Replies.{way_of}
use Rattle.interface.specs.Sound.{IsSoundReply}
use Rattle.sockets.specs.Order.{IsOrdered}
use Rattle.sockets.specs.SocketsView.{later_moment}
use Rattle.host.specs.Causes.{IsAbout}
use Rattle.host.specs.ConfigView.{ConfigView}
use Rattle.host.specs.Emission.{Emission, Replies, Sends, Asks, Nothing, emission, emission_octets, octets_of}
use Rattle.host.specs.HostView.{HostView}
use Rattle.host.specs.Runs.{Event, Runs, WasHeard}
use Rattle.host.specs.Sound.{IsSoundHost}
use Rattle.host.proofs.Carriage.{SendsPart, SendsSegment, at-all, is-sending}
use Rattle.host.proofs.Tables.{run-ordered}
use Rattle.host.proofs.Causes.{IsCaused, run-stands}
use Rattle.host.proofs.Hearing.{CanGo, echo-can, echo-frame, error-can, error-frame, heard-message, message-nothing, message-part, message-reply, message-request, message-reset, message-segment, way-mac}

-- the message that is heard of a reply, and where
abbrev pub IsOfReply : Reply → Addr → Message → Type 0
IsOfReply (Arp packet) ours m = ⊥
IsOfReply (Reset to head) ours m = ⊥
IsOfReply (Echo to identifier number octets) ours m = (ours ≡ to) × (m ≡ echo_reply identifier number octets)
IsOfReply (Error to reason quoted) ours m = (ours ≡ to) × (m ≡ error_for reason quoted [])

-- a frame that is that of a message
of-message : (i : InterfaceView) (theirs : Mac) (to : Addr) (m : Message) (mac : Mac) (ours : Addr) (c : Control) → CanGo i theirs to m → heard mac ours (message_frame_to i theirs to (spelling m)) ≡ Ok (Icmp c)
    → (ours ≡ to) × (c.message ≡ m)
of-message i theirs to m mac ours c can e =
    let two = heard-message i theirs to m mac ours c can e in
    (two.0, ap (λ (x : Control). x.message) two.1)

of-reply : (h : HostView) (moment : Moment) → IsSoundHost h → (r : Reply) → IsSoundReply h.interface.addr r → (way : Way) → way_of h.interface moment r ≡ way
    → (mac : Mac) (ours : Addr) (c : Control) → heard mac ours (frame_by h.interface r way) ≡ Ok (Icmp c) → IsOfReply r ours c.message
of-reply h moment sound r solid (Ask hop) is mac ours c e = absurd (let own = sound.interface in message-request h.interface hop mac ours c own.mac e)
of-reply h moment sound r solid Waits is mac ours c e = absurd (message-nothing mac ours c e)
of-reply h moment sound (Arp packet) solid (To theirs) is mac ours c e = message-reply h.interface theirs mac ours packet c solid.sender_mac solid.target_mac e
of-reply h moment sound (Reset to head) solid (To theirs) is mac ours c e =
    let own = sound.interface in
    message-reset h.interface theirs to head mac ours c solid.sendable (way-mac h.interface moment to theirs sound.interface is) own.mac e
of-reply h moment sound (Echo to identifier number octets) solid (To theirs) is mac ours c e =
    let can : CanGo h.interface theirs to (echo_reply identifier number octets) =
    echo-can h.interface theirs to identifier number octets sound.interface solid (way-mac h.interface moment to theirs sound.interface is) in
    of-message h.interface theirs to (echo_reply identifier number octets) mac ours c can
    (subst (λ (l : List ℕ). heard mac ours l ≡ Ok (Icmp c)) (echo-frame h.interface theirs to identifier number octets) e)
of-reply h moment sound (Error to reason quoted) solid (To theirs) is mac ours c e =
    let can : CanGo h.interface theirs to (error_for reason quoted []) =
    error-can h.interface theirs to reason quoted sound.interface solid (way-mac h.interface moment to theirs sound.interface is) in
    of-message h.interface theirs to (error_for reason quoted []) mac ours c can
    (subst (λ (l : List ℕ). heard mac ours l ≡ Ok (Icmp c)) (error-frame h.interface theirs to reason quoted) e)

-- A message that is heard is that of a reply that waited.

record WasReply (h : HostView) (ours : Addr) (m : Message) : Type 0 where
  pub place : ℕ
  pub waiting : Waiting
  pub at : slice_get h.interface.replies place ≡ Some waiting
  pub is : IsOfReply waiting.reply ours m

was-reply : (h : HostView) (moment : Moment) → IsSoundHost h → IsOrdered h.sockets → (x : Emission) → emission h moment ≡ x → (mac : Mac) (ours : Addr) (c : Control)
    → heard mac ours (octets_of h moment x) ≡ Ok (Icmp c) → WasReply h ours c.message
was-reply h moment sound ordered (Replies place) is mac ours c e = by_place (slice_get h.interface.replies place) refl e
  where
    by_place : (o : Option Waiting) → slice_get h.interface.replies place ≡ o → heard mac ours (frame_of_one h.interface moment o) ≡ Ok (Icmp c) → WasReply h ours c.message
    by_place None at e = absurd (message-nothing mac ours c e)
    by_place (Some waiting) at e =
        let own = sound.interface in
        record {
          place = place;
          waiting = waiting;
          at = at;
          is = of-reply h moment sound waiting.reply (at-all (λ (w : Waiting). IsSoundReply h.interface.addr w.reply) h.interface.replies place waiting own.replies at) (way_of h.interface moment waiting.reply) refl mac ours c e;
        }
was-reply h moment sound ordered (Sends theirs to) is mac ours c e = elim (is-sending h moment theirs to sound ordered is) [
  | SendsSegment own carried goes ↦
      let mine = sound.interface in
      absurd (message-segment h.interface own.mac own.to goes.head goes.text mac ours c goes.can goes.whole mine.mac goes.fits (subst (λ (l : List ℕ). heard mac ours l ≡ Ok (Icmp c)) goes.is e))
  | SendsPart part octets carried spelled whole ↦
      let mine = sound.interface in
      absurd (message-part h.interface theirs to part octets mac ours c whole mine.mac (subst (λ (l : List ℕ). heard mac ours l ≡ Ok (Icmp c)) spelled e))
]
was-reply h moment sound ordered (Asks hop) is mac ours c e = absurd (let own = sound.interface in message-request h.interface hop mac ours c own.mac e)
was-reply h moment sound ordered Nothing is mac ours c e = absurd (message-nothing mac ours c e)

-- An echo reply has type 0, and no error has.

no-error : (reason : Reason) → kind_of reason ≡ 0 → ⊥
no-error NetUnreachable e = omega (arith, e)
no-error HostUnreachable e = omega (arith, e)
no-error ProtocolUnreachable e = omega (arith, e)
no-error PortUnreachable e = omega (arith, e)
no-error FragmentationNeeded e = omega (arith, e)
no-error SourceRouteFailed e = omega (arith, e)
no-error TransitTimeExceeded e = omega (arith, e)
no-error ReassemblyTimeExceeded e = omega (arith, e)

abbrev Requested : ConfigView → List Event → Addr → Message → Type 0
Requested c events ours m = (request : Message) × WasHeard c events (Icmp (record { source = ours; message = request })) × IsEchoRequest request × RepliesTo m request

requested : (c : ConfigView) (events : List Event) (r : Reply) (ours : Addr) (m : Message) → IsCaused c events r → IsOfReply r ours m → m.kind ≡ 0 → Requested c events ours m
requested c events (Arp packet) ours m caused is kind = absurd is
requested c events (Reset to head) ours m caused is kind = absurd is
requested c events (Echo to identifier number octets) ours m caused is kind = (
  caused.request,
  subst (λ (a : Addr). WasHeard c events (Icmp (record { source = a; message = caused.request }))) (sym is.0) caused.was_heard,
  caused.asks,
  record {
    kind = kind;
    code = ap (λ (x : Message). x.code) is.1;
    identifier = ap (λ (x : Message). x.identifier) is.1 ∙ caused.same_identifier;
    number = ap (λ (x : Message). x.number) is.1 ∙ caused.same_number;
    payload = ap (λ (x : Message). x.payload) is.1 ∙ caused.same_octets;
  },
)
requested c events (Error to reason quoted) ours m caused is kind = absurd (no-error reason (sym (ap (λ (x : Message). x.kind) is.1) ∙ kind))

abbrev Reported : ConfigView → List Event → Addr → Message → Type 0
Reported c events ours m =
    (reason : Reason) × (d : Datagram) × (meaning : Meaning) × IsAbout reason d meaning × WasHeard c events meaning × (d.source ≡ ours) × (m ≡ error_for reason (header_octets d) d.payload)

quoting : Reason → List ℕ → Message
quoting reason quoted = sent (record { kind = kind_of reason; code = code_of reason; identifier = 0; number = 0 }) quoted

reported : (c : ConfigView) (events : List Event) (r : Reply) (ours : Addr) (m : Message) → IsCaused c events r → IsOfReply r ours m → m.kind ≢ 0 → Reported c events ours m
unfolding quoting
reported c events (Arp packet) ours m caused is kind = absurd is
reported c events (Reset to head) ours m caused is kind = absurd is
reported c events (Echo to identifier number octets) ours m caused is kind = absurd (kind (ap (λ (x : Message). x.kind) is.1))
reported c events (Error to reason quoted) ours m caused is kind =
    (reason, caused.cause, caused.meaning, caused.about, caused.was_heard, caused.from ∙ sym is.0, is.1 ∙ ap (quoting reason) (append-nil quoted ∙ caused.quotes))

-- What goes out after these events.

caused-at : (c : ConfigView) (events : List Event) (h : HostView) (k : ℕ) (w : Waiting) → Runs c events h → slice_get h.interface.replies k ≡ Some w → IsCaused c events w.reply
caused-at c events h k w ran at =
    let host = run-stands c events h ran in
    let stands = host.interface in
    at-all (λ (x : Waiting). IsCaused c events x.reply) h.interface.replies k w stands.replies at

pub request-there : (c : ConfigView) (events : List Event) (h : HostView) (now : Moment) (mac : Mac) (ours : Addr) (reply : Control) → Runs c events h → IsSoundHost h
    → heard mac ours (emission_octets h now) ≡ Ok (Icmp reply) → reply.message.kind ≡ 0 → Requested c events ours reply.message
request-there c events h now mac ours reply ran sound e kind =
    let moment = later_moment h.sockets now in
    let was = was-reply h moment sound (run-ordered c events h ran) (emission h moment) refl mac ours reply e in
    requested c events was.waiting.reply ours reply.message (caused-at c events h was.place was.waiting ran was.at) was.is kind

pub cause-there : (c : ConfigView) (events : List Event) (h : HostView) (now : Moment) (mac : Mac) (ours : Addr) (error : Control) → Runs c events h → IsSoundHost h
    → heard mac ours (emission_octets h now) ≡ Ok (Icmp error) → error.message.kind ≢ 0 → Reported c events ours error.message
cause-there c events h now mac ours error ran sound e kind =
    let moment = later_moment h.sockets now in
    let was = was-reply h moment sound (run-ordered c events h ran) (emission h moment) refl mac ours error e in
    reported c events was.waiting.reply ours error.message (caused-at c events h was.place was.waiting ran was.at) was.is kind
