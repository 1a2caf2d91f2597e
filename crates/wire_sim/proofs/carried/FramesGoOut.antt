-- A frame that a host emits is a move of one pairing, or of none; and whoever hears a segment of it hears what went out.
use Rattle.std.proofs.Common.{◌≡◌, ℕ, inl, inr, true, List, [], ◌∷◌, ◌++◌, Option, Some, None, option_map, Ok, refl, sym, ◌∙◌, ap, subst}
use Rattle.std.specs.List.{find, slice_get, AllByRecursion}
use Rattle.ether.specs.declared.mac.Mac.{Mac}
use Rattle.ipv4.specs.declared.addr.Addr.{Addr}
use Rattle.ipv4.specs.declared.addr.Endpoint.{Endpoint}
use Rattle.ipv4.specs.Addresses.{pair_of}
use Rattle.clock.specs.declared.moment.Moment.{Moment}
use Rattle.tcp_segment.specs.declared.head.Head.{Head}
use Rattle.tcp_segment.specs.Sent.{CanBeSent, sent_segment, sent_octets}
use Rattle.tcp_state.specs.declared.emission.Due.{Due}
use Rattle.tcp_state.specs.View.{View}
use Rattle.tcp_state.specs.Due.{first_due, flags_of, head_of, octets_of, segment_octets as connection_octets}
use Rattle.tcp_state.proofs.GoesOut.{due-may}
use Rattle.udp_socket.specs.Emission.{due_octets}
use Rattle.udp_socket.specs.SocketView.{SocketView}
use Rattle.frames.specs.declared.meaning.ReceivedSegment.{ReceivedSegment}
use Rattle.frames.specs.declared.meaning.Meaning.TheVariants.{Tcp}
use Rattle.frames.specs.Meaning.{heard}
use Rattle.frames.specs.Pairs.{pair_in, pair_between}
use Rattle.frames.proofs.PairLemmas.{heard_pairs}
use Rattle.interface.specs.declared.reply.Reply.{Reply}
use Rattle.interface.specs.declared.reply.Reply.TheVariants.{Arp, Reset, Echo, Error}
use Rattle.interface.specs.declared.reply.Waiting.{Waiting}
use Rattle.interface.specs.declared.way.Way.{Way}
use Rattle.interface.specs.declared.way.Way.TheVariants.{To, Ask, Waits}
use Rattle.interface.specs.InterfaceView.{InterfaceView}
use Rattle.interface.specs.Emission.{segment_frame_to, part_frame_to, request_frame, reply_frame, frame_by, frame_of_one, frame_at}
use Rattle.interface.specs.Replies.{way_of}
use Rattle.interface.specs.Ways.{way}
use Rattle.interface.specs.Sound.{IsSound, IsSoundReply}
use Rattle.sockets.specs.declared.emission.Outgoing.{Outgoing}
use Rattle.sockets.specs.declared.entry.SocketId.{SocketId}
use Rattle.sockets.specs.declared.entry.Entry.{Entry}
use Rattle.sockets.specs.declared.role.Role.TheVariants.{Connected, Datagrams}
use Rattle.sockets.specs.Entries.{sends, due_to, source_of, with_first, with_role, role_after_emission, emission_fate_of, entries_after_step}
use Rattle.sockets.specs.Emission.{emitted, emitted_octets, after_segment_sent, in_turn}
use Rattle.sockets.specs.Lists.{change_first}
use Rattle.sockets.proofs.Emitting.{segment_sent-found}
use Rattle.sockets.specs.SocketsView.{SocketsView, later_moment}
use Rattle.sockets.specs.Sound.{IsSoundConnection, IsSoundRole}
use Rattle.host.specs.HostView.{HostView}
use Rattle.host.specs.Emission as host_emission
use Rattle.host.specs.Emission.{Emission, Replies, Sends, Asks, Nothing, goes_out_from, emission, emitted_frame, len_of, left_by, emission_len, emission_octets, after_emission}
use Rattle.host.specs.Sound.{IsSoundHost}
use Rattle.host.proofs.Hearing.{heard-nothing, heard-request, heard-reply, heard-segment, heard-reset, segment-message, echo-can, echo-frame, error-can, error-frame, way-mac}
use Rattle.host.proofs.DueSegments.{due-can, due-fits}
use Rattle.sides.specs.declared.side.Side.{Side}
use Rattle.wire_sim.specs.declared.event.Opening.{Opening}
use Rattle.wire_sim.specs.declared.event.Happening.{Happening}
use Rattle.wire_sim.specs.declared.world.bag.Frame.{Frame}
use Rattle.wire_sim.specs.Openings.{epoch_of}
use Rattle.wire_sim.specs.Steps.{note_of}
use Rattle.wire_sim.specs.WorldView.{NetworkView}
use Rattle.wire_sim.proofs.lists.FoundAfterChange.{All-find, All-at, All-added, All-weaker}
use Rattle.wire_sim.proofs.emission.SegmentsGoOut.{Emits}
use Rattle.wire_sim.proofs.pairing.EmissionIsMove.{emission_of, bag_after, among-new, GoesReset, GoesOn, projects-emitted}
use Rattle.wire_sim.proofs.pairing.WorldAsPairings.{Sent, Bag, Projects}
use Rattle.wire_sim.proofs.pairing.CallsAreMoves.{projects-alike, projects-quiet_at}
use Rattle.wire_sim.proofs.carried.TableSends.{IsNext, IsDatagramDue, OfConnection, OfSocket, sends-for, segment-framed, part-framed, part-unheard}
use Rattle.wire_sim.proofs.carried.FramesCarry.{IsTallied, at_side-noted, IsSent, Carries, Carried, carried-more}
use Rattle.wire_sim.proofs.tables.TableById.{entry_with, IsOpened, found-role}

-- What a frame carries as it goes out.

-- nothing
carries-none : (dst : Addr) (hs ts : Side) (out : Sent) (f : Frame) (octets : List ℕ) → f.octets.items ≡ octets → ((mac : Mac) (r : ReceivedSegment) → heard mac dst octets ≡ Ok (Tcp r) → ⊥) → Carries dst hs ts out f
carries-none dst hs ts out f octets is none = λ mac r e. absurd (none mac r (subst (λ x. heard mac dst x ≡ Ok (Tcp r)) is e))

-- the note of what is heard
heard-noted : (n : NetworkView) (dst : Addr) (f : Frame) (mac : Mac) (r : ReceivedSegment) → f.note ≡ option_map (note_of n) (pair_in f.octets.items) → heard mac dst f.octets.items ≡ Ok (Tcp r) → f.note ≡ Some (note_of n (pair_between r.source dst r.segment))
heard-noted n dst f mac r note e = note ∙ ap (option_map (note_of n)) (heard_pairs mac dst f.octets.items r e)

-- a reset
carries-reset : (n : NetworkView) (dst : Addr) (hs ts : Side) (out : Sent) (f : Frame) (octets : List ℕ) (source to : Addr) (head : Head) → f.octets.items ≡ octets → f.note ≡ option_map (note_of n) (pair_in f.octets.items) → head.flags.rst ≡ true
    → ((mac : Mac) (r : ReceivedSegment) → heard mac dst octets ≡ Ok (Tcp r) → (dst ≡ to) × (r ≡ record { source = source; segment = sent_segment head [] })) → Carries dst hs ts out f
carries-reset n dst hs ts out f octets source to head is note reset hears = λ mac r e.
    let two = hears mac r (subst (λ x. heard mac dst x ≡ Ok (Tcp r)) is e) in
    record {
      note = note_of n (pair_between r.source dst r.segment);
      noted = heard-noted n dst f mac r note e;
      pair = refl;
      kind = inl (ap (λ (x : ReceivedSegment). x.segment.flags.rst) two.1 ∙ reset);
    }

-- a connection's segment
carries-sent : (n : NetworkView) (trace : List Happening) (dst : Addr) (hs ts : Side) (bag : Bag) (f : Frame) (octets : List ℕ) (source : Addr) (c : View) (due : Due) → IsTallied n trace → f.octets.items ≡ octets → f.note ≡ option_map (note_of n) (pair_in f.octets.items)
    → source ≡ c.local.addr → ((mac : Mac) (r : ReceivedSegment) → heard mac dst octets ≡ Ok (Tcp r) → (dst ≡ c.peer.addr) × (r ≡ record { source = source; segment = sent_segment (head_of c due) (octets_of c due) }))
    → Carries dst hs ts (let g = bag_after hs ts n.openings trace c due bag in g.out) f
carries-sent n trace dst hs ts bag f octets source c due tallied is note is_source hears = λ mac r e.
    let two = hears mac r (subst (λ x. heard mac dst x ≡ Ok (Tcp r)) is e) in
    let s = sent_segment (head_of c due) (octets_of c due) in
    let pair = pair_of c.local c.peer in
    let epoch = epoch_of n.openings pair in
    let new = emission_of hs ts n.openings trace c due in
    let same : pair_between r.source dst r.segment ≡ pair =
    ap (λ (x : ReceivedSegment). pair_between x.source dst x.segment) two.1
    ∙ (ap (λ y. pair_between source y s) two.0 ∙ ap (λ x. pair_between x c.peer.addr s) is_source) in
    let g = bag_after hs ts n.openings trace c due bag in
    let sent : IsSent hs ts g.out (note_of n pair) r.segment = record {
      emission = new;
      among = among-new pair epoch new bag.out;
      segment = sym (ap (λ (x : ReceivedSegment). x.segment) two.1);
      own_at = at_side-noted n pair hs ∙ tallied hs pair epoch;
      other_at = at_side-noted n pair ts ∙ tallied ts pair epoch;
    } in
    record {
      note = note_of n (pair_between r.source dst r.segment);
      noted = heard-noted n dst f mac r note e;
      pair = refl;
      kind = inr (subst (λ p. IsSent hs ts g.out (note_of n p) r.segment) (sym same) sent);
    }

-- What is shown once a frame went out.
pub record WentOut (limit : ℕ) (hs ts : Side) (a b : Addr) (own' other : SocketsView) (frames : List Frame) (openings : List Opening) (trace : List Happening) : Type 0 where
  pub bag : Bag
  pub projects : Projects limit hs ts a b own' other bag openings trace
  pub carried : AllByRecursion (Carried hs ts a b bag) frames

-- nothing went out of the table
went-aside : (limit : ℕ) (hs ts : Side) (a b : Addr) (own other : SocketsView) (bag : Bag) (frames : List Frame) (openings : List Opening) (trace : List Happening) (f : Frame) → f.sender ≡ hs → Projects limit hs ts a b own other bag openings trace
    → AllByRecursion (Carried hs ts a b bag) frames → Carries b hs ts bag.out f → WentOut limit hs ts a b own other (frames ++ f ∷ []) openings trace
went-aside limit hs ts a b own other bag frames openings trace f sender h carried c = record { bag = bag; projects = h; carried = All-added (Carried hs ts a b bag) frames f carried (inl (sender, c)) }

-- A control reply, or the request for its hop.
carries-reply : (n : NetworkView) (dst : Addr) (hs ts : Side) (out : Sent) (f : Frame) (i : InterfaceView) (moment : Moment) (place : ℕ) → IsSound i → f.octets.items ≡ frame_at i moment place → f.note ≡ option_map (note_of n) (pair_in f.octets.items) → Carries dst hs ts out f
carries-reply n dst hs ts out f i moment place sound octets note = by_place (slice_get i.replies place) refl octets
  where
    by_way : (reply : Reply) → IsSoundReply i.addr reply → (w : Way) → way_of i moment reply ≡ w → f.octets.items ≡ frame_by i reply w → Carries dst hs ts out f
    by_way reply solid Waits is octets = carries-none dst hs ts out f [] octets (λ mac r e. heard-nothing mac dst r e)
    by_way reply solid (Ask hop) is octets = carries-none dst hs ts out f (request_frame i hop) octets (λ mac r e. heard-request i hop mac dst r sound.mac e)
    by_way (Arp packet) solid (To theirs) is octets = carries-none dst hs ts out f (reply_frame i theirs (Arp packet)) octets (λ mac r e. heard-reply i theirs mac dst packet r solid.sender_mac solid.target_mac e)
    by_way (Reset to head) solid (To theirs) is octets =
        carries-reset n dst hs ts out f (reply_frame i theirs (Reset to head)) i.addr to head octets note solid.reset
        (λ mac r e. heard-reset i theirs to head mac dst r solid.sendable (way-mac i moment to theirs sound is) sound.mac e)
    by_way (Echo to identifier number asked) solid (To theirs) is octets =
        let can = echo-can i theirs to identifier number asked sound solid (way-mac i moment to theirs sound is) in
        carries-none dst hs ts out f _ (octets ∙ echo-frame i theirs to identifier number asked) (λ mac r e. segment-message i theirs to _ mac dst r can e)
    by_way (Error to reason quoted) solid (To theirs) is octets =
        let can = error-can i theirs to reason quoted sound solid (way-mac i moment to theirs sound is) in
        carries-none dst hs ts out f _ (octets ∙ error-frame i theirs to reason quoted) (λ mac r e. segment-message i theirs to _ mac dst r can e)

    by_place : (o : Option Waiting) → slice_get i.replies place ≡ o → f.octets.items ≡ frame_of_one i moment o → Carries dst hs ts out f
    by_place None at octets = carries-none dst hs ts out f [] octets (λ mac r e. heard-nothing mac dst r e)
    by_place (Some waiting) at octets =
        by_way waiting.reply (All-at (λ (w : Waiting). IsSoundReply i.addr w.reply) i.replies place waiting sound.replies at) (way_of i moment waiting.reply) refl octets

-- A connection's segment.

segment-sent : (limit : ℕ) (hs ts : Side) (a b : Addr) (h : HostView) (other : SocketsView) (n : NetworkView) (bag : Bag) (trace : List Happening) (f : Frame) (moment : Moment) (mac : Mac) (to : Addr) (e : Entry) (what : Endpoint × Outgoing) (c : View) (l : Option SocketId) (due : Due)
    → IsNext h.sockets (goes_out_from h moment) e what → e.role ≡ Connected c l → first_due c ≡ Some due → to ≡ c.peer.addr → way h.interface moment to ≡ To mac
    → IsTallied n trace → IsSoundHost h → f.sender ≡ hs → f.octets.items ≡ emitted_frame h.interface mac to (emitted h.sockets (goes_out_from h moment)) (emitted_octets h.sockets (goes_out_from h moment))
    → f.note ≡ option_map (note_of n) (pair_in f.octets.items) → Projects limit hs ts a b h.sockets other bag n.openings trace → AllByRecursion (Carried hs ts a b bag) n.frames
    → WentOut limit hs ts a b (after_segment_sent h.sockets (goes_out_from h moment) moment) other (n.frames ++ f ∷ []) n.openings trace
segment-sent limit hs ts a b h other n bag trace f moment mac to e what c l due chosen is_role first is_to leads tallied sound sender octets note p carried =
    let own = h.sockets in
    let goes = goes_out_from h moment in
    let test = in_turn own (sends goes) in
    let found = chosen.found in
    let emits : Emits own.entries test e c l due = record { found = found; role = is_role; first = first } in
    let solid : IsSoundConnection c = subst IsSoundRole is_role (All-find (λ (e : Entry). IsSoundRole e.role) test own.entries e sound.table.entries found) in
    let may = due-may c due solid.sound first in
    let now = later_moment own moment in
    let stepped : SocketsView = record own { entries = entries_after_step (emission_fate_of (role_after_emission now what.1 e.role)) test (role_after_emission now what.1) own.entries } in
    let next : SocketsView = record stepped { turn = e.id } in
    let becomes : after_segment_sent own goes moment ≡ next = segment_sent-found own goes moment e what found chosen.is in
    let role = found-role test own.entries (record { id = e.id; role = Connected c l }) p.own_table.sole (found ∙ ap Some (entry_with e (Connected c l) is_role)) in
    let opened : IsOpened hs a n.openings e.id c = p.own_table.noted e.id (Connected c l) role in
    let source : h.interface.addr ≡ c.local.addr = sound.own ∙ (p.own_addr ∙ sym opened.local) in
    let frame : f.octets.items ≡ segment_frame_to h.interface mac c.peer.addr (sent_octets h.interface.addr c.peer.addr (head_of c due) (octets_of c due)) =
    octets ∙ (segment-framed h.interface mac to own goes e what c l due chosen is_role first ∙ (ap (λ t. segment_frame_to h.interface mac t (connection_octets c due)) is_to
    ∙ ap (λ x. segment_frame_to h.interface mac c.peer.addr (sent_octets x c.peer.addr (head_of c due) (octets_of c due))) (sym source))) in
    let can : CanBeSent h.interface.addr c.peer.addr (head_of c due) (octets_of c due) = subst (λ x. CanBeSent x c.peer.addr (head_of c due) (octets_of c due)) (sym source) (due-can c due solid may) in
    let hears : (m : Mac) (r : ReceivedSegment) → heard m b (segment_frame_to h.interface mac c.peer.addr (sent_octets h.interface.addr c.peer.addr (head_of c due) (octets_of c due))) ≡ Ok (Tcp r)
    → (b ≡ c.peer.addr) × (r ≡ record { source = h.interface.addr; segment = sent_segment (head_of c due) (octets_of c due) }) =
    λ m r e. heard-segment h.interface mac c.peer.addr (head_of c due) (octets_of c due) m b r can (way-mac h.interface moment to mac sound.interface leads) sound.interface.mac (due-fits c due may) e in
    subst (λ w. WentOut limit hs ts a b w other (n.frames ++ f ∷ []) n.openings trace) (sym becomes)
    (elim (projects-emitted limit hs ts a b own other bag n.openings trace now what.1 test e c l due emits sound.table p) [
      | GoesReset is_reset q ↦
          went-aside limit hs ts a b next other bag n.frames n.openings trace f sender (projects-alike limit hs ts a b stepped next other bag n.openings trace refl refl refl q) carried
          (carries-reset n b hs ts bag.out f (segment_frame_to h.interface mac c.peer.addr (sent_octets h.interface.addr c.peer.addr (head_of c due) (octets_of c due))) h.interface.addr c.peer.addr (head_of c due) frame note
          (ap (λ d. let x = flags_of c d in x.rst) is_reset)
          (λ m r e. let two = hears m r e in (two.0, two.1 ∙ ap (λ l. let x : ReceivedSegment = record { source = h.interface.addr; segment = sent_segment (head_of c due) l } in x) (ap (octets_of c) is_reset))))
      | GoesOn unreset q ↦
          let more = bag_after hs ts n.openings trace c due bag in
          record {
            bag = more;
            projects = projects-alike limit hs ts a b stepped next other more n.openings trace refl refl refl q;
            carried = All-added (Carried hs ts a b more) n.frames f
                (All-weaker (Carried hs ts a b bag) (Carried hs ts a b more) (λ g was. carried-more hs ts a b bag (pair_of c.local c.peer) (epoch_of n.openings (pair_of c.local c.peer)) (emission_of hs ts n.openings trace c due) g was) n.frames carried)
                (inl (
                  sender,
                  carries-sent n trace b hs ts bag f (segment_frame_to h.interface mac c.peer.addr (sent_octets h.interface.addr c.peer.addr (head_of c due) (octets_of c due))) h.interface.addr c due tallied frame note source hears,
                ));
          }
    ])

-- A part of a UDP socket's datagram: it moves no connection, and nobody hears a segment in its frame.

part-sent : (limit : ℕ) (hs ts : Side) (a b : Addr) (h : HostView) (other : SocketsView) (n : NetworkView) (bag : Bag) (trace : List Happening) (f : Frame) (moment : Moment) (mac : Mac) (to : Addr) (e : Entry) (what : Endpoint × Outgoing) (bound : Option Endpoint) (socket : SocketView)
    → IsNext h.sockets (goes_out_from h moment) e what → e.role ≡ Datagrams bound socket → IsDatagramDue socket what → way h.interface moment to ≡ To mac
    → IsSoundHost h → f.sender ≡ hs → f.octets.items ≡ emitted_frame h.interface mac to (emitted h.sockets (goes_out_from h moment)) (emitted_octets h.sockets (goes_out_from h moment))
    → Projects limit hs ts a b h.sockets other bag n.openings trace → AllByRecursion (Carried hs ts a b bag) n.frames
    → WentOut limit hs ts a b (after_segment_sent h.sockets (goes_out_from h moment) moment) other (n.frames ++ f ∷ []) n.openings trace
part-sent limit hs ts a b h other n bag trace f moment mac to e what bound socket chosen role due leads sound sender octets p carried =
    let own = h.sockets in
    let goes = goes_out_from h moment in
    let test = in_turn own (sends goes) in
    let now = later_moment own moment in
    let x : Entry = record { id = e.id; role = Datagrams bound socket } in
    let at : find test own.entries ≡ Some x = chosen.found ∙ ap Some (entry_with e (Datagrams bound socket) role) in
    let changed : SocketsView = record own { entries = change_first test (with_role (role_after_emission now what.1)) own.entries } in
    let next : SocketsView = record changed { turn = x.id } in
    let becomes : after_segment_sent own goes moment ≡ next = segment_sent-found own goes moment x what at (ap (due_to goes) (sym role) ∙ chosen.is) in
    let parts : List ℕ = due_octets (source_of own.addr bound) (with_first what.1 socket) in
    let whole = way-mac h.interface moment to mac sound.interface leads in
    subst (λ w. WentOut limit hs ts a b w other (n.frames ++ f ∷ []) n.openings trace) (sym becomes)
    (went-aside limit hs ts a b next other bag n.frames n.openings trace f sender
    (projects-alike limit hs ts a b changed next other bag n.openings trace refl refl refl (projects-quiet_at limit hs ts a b own other bag n.openings trace test (role_after_emission now what.1) x at refl (λ noted. noted) p)) carried
    (carries-none b hs ts bag.out f (part_frame_to h.interface mac to due.part parts) (octets ∙ part-framed h.interface mac to own goes e what bound socket due chosen role)
    (λ m r e. part-unheard h.interface mac to due.part parts m b r whole sound.interface.mac e)))

-- Whatever the table sends.
frame-sent : (limit : ℕ) (hs ts : Side) (a b : Addr) (h : HostView) (other : SocketsView) (n : NetworkView) (bag : Bag) (trace : List Happening) (f : Frame) (moment : Moment) (mac : Mac) (to : Addr)
    → IsTallied n trace → IsSoundHost h → emission h moment ≡ Sends mac to → f.sender ≡ hs → f.octets.items ≡ emitted_frame h.interface mac to (emitted h.sockets (goes_out_from h moment)) (emitted_octets h.sockets (goes_out_from h moment))
    → f.note ≡ option_map (note_of n) (pair_in f.octets.items) → Projects limit hs ts a b h.sockets other bag n.openings trace → AllByRecursion (Carried hs ts a b bag) n.frames
    → WentOut limit hs ts a b (after_segment_sent h.sockets (goes_out_from h moment) moment) other (n.frames ++ f ∷ []) n.openings trace
frame-sent limit hs ts a b h other n bag trace f moment mac to tallied sound is sender octets note p carried =
    elim (sends-for h moment mac to is) [
      | OfConnection e what c l due chosen role first is_to leads ↦ segment-sent limit hs ts a b h other n bag trace f moment mac to e what c l due chosen role first is_to leads tallied sound sender octets note p carried
      | OfSocket e what bound socket chosen role due is_to leads ↦ part-sent limit hs ts a b h other n bag trace f moment mac to e what bound socket chosen role due leads sound sender octets p carried
    ]

-- Whatever goes out.
pub frame-went-out : (limit : ℕ) (hs ts : Side) (a b : Addr) (h : HostView) (other : SocketsView) (n : NetworkView) (bag : Bag) (trace : List Happening) (clock : Moment) (len : ℕ) (f : Frame)
    → IsTallied n trace → IsSoundHost h → emission_len h clock ≡ Some len → f.sender ≡ hs → f.octets.items ≡ emission_octets h clock → f.note ≡ option_map (note_of n) (pair_in f.octets.items)
    → Projects limit hs ts a b h.sockets other bag n.openings trace → AllByRecursion (Carried hs ts a b bag) n.frames
    → WentOut limit hs ts a b (let w = after_emission h clock in w.sockets) other (n.frames ++ f ∷ []) n.openings trace
frame-went-out limit hs ts a b h other n bag trace clock len f tallied sound some sender octets note p carried = by_emission (emission h moment) refl some octets
  where
    moment : Moment
    moment = later_moment h.sockets clock

    by_emission : (x : Emission) → emission h moment ≡ x → len_of h moment x ≡ Some len → f.octets.items ≡ host_emission.octets_of h moment x → WentOut limit hs ts a b (let w = left_by h moment x in w.sockets) other (n.frames ++ f ∷ []) n.openings trace
    by_emission (Replies place) is some octets = went-aside limit hs ts a b h.sockets other bag n.frames n.openings trace f sender p carried (carries-reply n b hs ts bag.out f h.interface moment place sound.interface octets note)
    by_emission (Sends mac to) is some octets = frame-sent limit hs ts a b h other n bag trace f moment mac to tallied sound is sender octets note p carried
    by_emission (Asks hop) is some octets =
        went-aside limit hs ts a b h.sockets other bag n.frames n.openings trace f sender p carried (carries-none b hs ts bag.out f (request_frame h.interface hop) octets (λ mac r e. heard-request h.interface hop mac b r sound.interface.mac e))
    by_emission Nothing is some octets = let bad : None ≡ Some len = some in cc
