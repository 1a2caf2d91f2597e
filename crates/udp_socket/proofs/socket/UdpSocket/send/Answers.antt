use Rattle.std.proofs.Common.{ℕ, List, [], ◌∷◌, ◌++◌, length, refl, sym, ◌∙◌, ap, subst}
use Rattle.circular_buffer.specs.Buffer.{Buffer, buffer}
use Rattle.udp.specs.Waiting.{Waiting, Line, HasRoom}
use Rattle.udp_socket.specs.declared.tag.Tag.{Tag}
use Rattle.udp_socket.specs.SocketView.{Outgoing, SocketView, with_sent}
use Rattle.udp_socket.specs.Stored.{outgoing_of, IsStored}
use Rattle.udp_socket.proofs.Beside.{tags_after, stored_push, outgoing_push}
use Rattle.udp_socket.proofs.Rooms.{err_not_ok, none_has_room, has_its_room, out_stored}
use Rattle.udp_socket.proofs.socket.UdpSocket.send.Goals as goal

pub returns-in_err-push-clause-room : goal.returns-in_err-push-clause-room
returns-in_err-push-clause-room c =
    let n : ℕ = length c.args.octets.now in
    err_not_ok c.from_residual.result c.from_residual.ensures.0
    ∙ sym (none_has_room c.self.inside.datagrams n c.self.invariant.outbox (λ room. let no = c.in_err-push.ensures.room.1 room in cc))
    ∙ out_stored c.self.inside.tags.items c.self.inside.datagrams c.args.self.now n c.self.invariant.beside (ap (λ (s : SocketView). s.outbox) c.self.view_is)

pub invariant_of-self-2 : goal.invariant_of-self-2
invariant_of-self-2 c =
    let tag : Tag = record { peer = c.args.peer; identification = c.args.identification; since = c.args.now } in
    let item : Waiting = record { endpoint = c.args.peer; octets = c.args.octets.now } in
    let tags = c.self.inside.tags in
    let line = c.self.inside.datagrams in
    let room : HasRoom line (length c.args.octets.now) = c.in_ok-push.ensures.room.0 refl in
    let first = tags_after tags c.push_back.new.self line tag (length c.args.octets.now) c.self.invariant.places c.self.invariant.beside room c.push_back.ensures.items in
    subst (λ (ts : Buffer Tag). IsStored c.self.inside.inbox c.push.new.self ts c.self.inside.parts) (sym first)
    (subst (λ (l : Line). IsStored c.self.inside.inbox l (buffer (tags.items ++ tag ∷ []) tags.capacity) c.self.inside.parts) (sym c.in_ok-push.ensures.ok)
    (stored_push c.self.inside.inbox line tags c.self.inside.parts tag item c.self.invariant refl c.requires room.datagrams))

pub returns-clause-room : goal.returns-clause-room
returns-clause-room c =
    let n : ℕ = length c.args.octets.now in
    sym (has_its_room c.self.inside.datagrams n c.self.invariant.outbox (c.in_ok-push.ensures.room.0 refl))
    ∙ out_stored c.self.inside.tags.items c.self.inside.datagrams c.args.self.now n c.self.invariant.beside (ap (λ (s : SocketView). s.outbox) c.self.view_is)

pub returns-clause-ok : goal.returns-clause-ok
returns-clause-ok c =
    let tag : Tag = record { peer = c.args.peer; identification = c.args.identification; since = c.args.now } in
    let item : Waiting = record { endpoint = c.args.peer; octets = c.args.octets.now } in
    let tags = c.self.inside.tags in
    let line = c.self.inside.datagrams in
    let room : HasRoom line (length c.args.octets.now) = c.in_ok-push.ensures.room.0 refl in
    let first = tags_after tags c.push_back.new.self line tag (length c.args.octets.now) c.self.invariant.places c.self.invariant.beside room c.push_back.ensures.items in
    ap (λ (ts : Buffer Tag). shown c.self.inside.inbox.items (outgoing_of ts.items c.push.new.self.items) c.self.inside.parts) first
    ∙ ap (λ (l : Line). shown c.self.inside.inbox.items (outgoing_of (tags.items ++ tag ∷ []) l.items) c.self.inside.parts) c.in_ok-push.ensures.ok
    ∙ ap (λ (os : List Outgoing). shown c.self.inside.inbox.items os c.self.inside.parts) (outgoing_push tags.items line.items tag item c.self.invariant.beside)
    ∙ ap (λ (s : SocketView). with_sent s c.args.now c.args.peer c.args.identification c.args.octets.now) c.self.view_is
  where
    shown : List Waiting → List Outgoing → ℕ → SocketView
    shown inbox outbox parts = record { inbox = inbox; outbox = outbox; parts = parts }
