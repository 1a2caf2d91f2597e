-- A host stays within its limits, over every list of events.
use Rattle.sockets.specs.declared.sizes.Sizes.{Sizes as TableSizes}
use Rattle.sockets.proofs.Rooms.{reached_size}
use Rattle.sockets.specs.Rooms.{HasRoomFor}
use Rattle.std.proofs.Common.{◌≡◌, ℕ, zero, suc, ◌<◌, ◌≤◌, ◌||◌, Bool, true, false, cond, List, [], ◌∷◌, length, take, count_by, Option, Some, None, IfSome, is_some, refl, sym, subst, length-append, length-take, arith, ap}
use Rattle.std.specs.List.{AllByRecursion, slice_index_or}
use Rattle.std.proofs.lemmas.List.Sums.{sum_by-cons}
use Rattle.ipv4.specs.declared.addr.Addr.{Addr}
use Rattle.ipv4.specs.Datagram.{Datagram, header_octets}
use Rattle.tcp_segment.specs.Wire.{past}
use Rattle.tcp_state.specs.View.{View, IsSound, is_opening, is_write_finished}
use Rattle.frames.proofs.Hearers.{fragments_fit}
use Rattle.reassembly.specs.Fragments.{quote_of}
use Rattle.reassembly.specs.Reassembly.{Reassembly}
use Rattle.interface.specs.declared.reply.Reply.{Reply}
use Rattle.interface.specs.declared.reply.Reply.TheVariants as reply
use Rattle.interface.specs.declared.reply.Waiting.{Waiting}
use Rattle.interface.specs.Sound.{IsSoundReply}
use Rattle.sockets.specs.declared.entry.Entry.{Entry}
use Rattle.sockets.specs.declared.role.Role.{Role}
use Rattle.sockets.specs.declared.role.Role.TheVariants.{Idle, Listener, Connected, Datagrams}
use Rattle.sockets.specs.Sound.{IsSoundRole}
use Rattle.sockets.proofs.OfferHeld.{ready-offered}
use Rattle.host.specs.ConfigView.{ConfigView, IsConfig}
use Rattle.host.specs.HostView.{HostView}
use Rattle.host.specs.Limits.{IsInItsBuffers, IsInItsRoom, IsWithinLimits, IsWithinPayload, octets_of}
use Rattle.host.specs.Runs.{Event, Runs}
use Rattle.host.specs.Sound.{IsSoundHost}
use Rattle.host.proofs.Causes.{WasPart, run-stands}
use Rattle.host.proofs.Filled.{Fits, reached-fit}
use Rattle.host.proofs.FrameSide.{few-neighbours, run-side}
use Rattle.host.proofs.Gathering.{AreGathered, IsGathered, IsGatheredAt, gathered-quote}
use Rattle.host.proofs.Tables.{run-reached, run-sizes}

-- A connection keeps no octet past its window.

-- the octets that are kept among so many places
kept-few : (places : List (Option ℕ)) (window : ℕ) → ((distance octet : ℕ) → slice_index_or places distance None ≡ Some octet → distance < window) → count_by is_some places ≤ window
kept-few [] window within = omega arith
kept-few (None ∷ places) window within =
    omega (arith, sum_by-cons (λ (o : Option ℕ). cond (is_some o) 1 0) None places, kept-few places window (λ distance octet there. omega (arith, within (suc distance) octet there)))
kept-few (Some first ∷ places) zero within = absurd (omega (arith, within 0 first refl))
kept-few (Some first ∷ places) (suc window) within =
    omega (arith, sum_by-cons (λ (o : Option ℕ). cond (is_some o) 1 0) (Some first) places, kept-few places window (λ distance octet there. omega (arith, within (suc distance) octet there)))

held-few : (b : Bool) (held size : ℕ) → held ≤ cond b 0 size → held ≤ size
held-few true held size most = omega (arith, most)
held-few false held size most = most

in-buffers : (most : ℕ) (c : View) → IsSound c → c.receiving.capacity ≤ most → IsInItsBuffers most c
in-buffers most c sound room =
    let terms = sound.terms in record {
      held = held-few (is_opening c.state || is_write_finished c.state) (length c.sending.held) c.sending.size sound.held;
      unread = omega (arith, sound.window, kept-few c.receiving.kept (past c.receiving.edge c.receiving.rnext) sound.kept);
      send_size = omega (arith, room, terms.same_size, terms.places);
      receive_size = omega (arith, room, terms.places);
    }

in-room : (most : ℕ) (role : Role) → IsSoundRole role → Fits role → HasRoomFor most role → IsInItsRoom most role
in-room most (Connected c l) sound fits room = in-buffers most c sound.sound room
in-room most (Datagrams bound s) sound fits room = fits
in-room most (Listener local b) sound fits room = tt
in-room most (Idle buffers bound) sound fits room = room

each-in_room : (most : ℕ) (entries : List Entry) → AllByRecursion (λ (e : Entry). IsSoundRole e.role) entries → AllByRecursion (λ (e : Entry). Fits e.role) entries → AllByRecursion (λ (e : Entry). HasRoomFor most e.role) entries
    → AllByRecursion (λ (e : Entry). IsInItsRoom most e.role) entries
each-in_room most [] sound fits room = tt
each-in_room most (e ∷ rest) sound fits room = (in-room most e.role sound.0 fits.0 room.0, each-in_room most rest sound.1 fits.1 room.1)

-- A reply is kept with what can be sent of it.

reply-few : (own : Addr) (r : Reply) → IsSoundReply own r → length (octets_of r) ≤ 1472
reply-few own (reply.Arp packet) sound = omega arith
reply-few own (reply.Reset to head) sound = omega arith
reply-few own (reply.Echo to identifier number octets) sound = sound.most
reply-few own (reply.Error to reason quoted) sound = omega (arith, sound.most)

replies-few : (own : Addr) (replies : List Waiting) → AllByRecursion (λ (w : Waiting). IsSoundReply own w.reply) replies → AllByRecursion (λ (w : Waiting). length (octets_of w.reply) ≤ 1472) replies
replies-few own [] sound = tt
replies-few own (w ∷ rest) sound = (reply-few own w.reply sound.0, replies-few own rest sound.1)

-- What is put together reaches no further than its place has room for, and is quoted by 68 octets at most.

quote-few : (d : Datagram) → length (header_octets d) ≤ 60 → length (quote_of d) ≤ 68
quote-few d most = omega (arith, most, length-append (header_octets d) (take 8 d.payload), length-take 8 d.payload)

within-payload : (c : ConfigView) (events : List Event) (most : ℕ) (r : Reassembly) → length r.octets ≤ most → IsGathered (WasPart c events) r → IsWithinPayload most r
within-payload c events most r short gathered = record {
  octets = short;
  quote = by_quote r.quote refl;
}
  where
    by_quote : (o : Option (List ℕ)) → r.quote ≡ o → IfSome o (λ quote. length quote ≤ 68)
    by_quote None is = tt
    by_quote (Some quote) is =
        let quoted = gathered-quote (WasPart c events) r quote gathered is in
        let was = quoted.passes in
        subst (λ (q : List ℕ). length q ≤ 68) (sym quoted.is) (quote-few quoted.zero_fragment (fragments_fit c.mac c.addr was.octets quoted.zero_fragment was.meant).0)

within-place : (c : ConfigView) (events : List Event) (most : ℕ) (place : Option Reassembly) → ((r : Reassembly) → place ≡ Some r → length r.octets ≤ most) → IsGatheredAt (WasPart c events) place → IfSome place (IsWithinPayload most)
within-place c events most None short gathered = tt
within-place c events most (Some r) short gathered = within-payload c events most r (short r refl) gathered

within-places : (c : ConfigView) (events : List Event) (most : ℕ) (places : List (Option Reassembly)) → ((i : ℕ) (r : Reassembly) → slice_index_or places i None ≡ Some r → length r.octets ≤ most) → AreGathered (WasPart c events) places
    → AllByRecursion (λ (place : Option Reassembly). IfSome place (IsWithinPayload most)) places
within-places c events most [] short gathered = tt
within-places c events most (place ∷ rest) short gathered = (within-place c events most place (short 0) gathered.0, within-places c events most rest (λ i. short (suc i)) gathered.1)

-- All of a host.

pub within-limits : (c : ConfigView) (events : List Event) (h : HostView) → IsConfig c → Runs c events h → IsSoundHost h → IsWithinLimits c.sizes h
within-limits c events h set_up ran sound =
    let side = run-side c events h ran in
    let stands = run-stands c events h ran in
    let reached = run-reached c events h ran in
    let offers = ready-offered h.sockets reached in
    let sizes : h.sockets.sizes ≡ record { entries = c.sizes.entries; buffer = c.sizes.buffer } = run-sizes c events h ran in
    let entries : h.sockets.sizes.entries ≡ c.sizes.entries = ap (λ (s : TableSizes). s.entries) sizes in
    let room = subst (λ (s : TableSizes). AllByRecursion (λ (e : Entry). HasRoomFor s.buffer e.role) h.sockets.entries) sizes (reached_size h.sockets reached) in
    let some : 0 < c.sizes.neighbours = let near = set_up.sizes.neighbours in omega (arith, near.0) in
    let table = sound.table in
    let own = sound.interface in
    record {
      interface = record { neighbours = few-neighbours h.interface some side; requests = side.few; replies = omega (arith, side.places, side.most); each = replies-few h.interface.addr h.interface.replies own.replies };
      sockets = record { entries = omega (arith, offers.few, entries); offered = omega (arith, offers.within, offers.few, entries); each = each-in_room c.sizes.buffer h.sockets.entries table.entries (reached-fit h.sockets reached) room };
      pool = record { places = stands.places; each = within-places c events c.sizes.reassembly_octets h.pool.places (λ i r at. omega (arith, stands.short i r at, stands.octets)) stands.pool };
      lately = stands.lately;
    }
