-- From an event of a host to what befalls one connection.
use Rattle.std.proofs.Common.{◌≡◌, ◌<◌, ℕ, List, [], ◌∷◌, ◌++◌, All, Some, Ok, refl, ap, subst, arith}
use Rattle.std.specs.List.{AllByRecursion}
use Rattle.clock.specs.declared.moment.Moment.{Moment}
use Rattle.ether.specs.declared.mac.Mac.{Mac}
use Rattle.ipv4.specs.declared.addr.Addr.{Addr}
use Rattle.tcp_segment.specs.Segment.{Segment, FieldsFit, HasForm}
use Rattle.frames.specs.declared.meaning.Meaning.TheVariants.{Tcp}
use Rattle.frames.specs.Meaning.{heard}
use Rattle.frames.proofs.Spelled.{one_meaning}
use Rattle.tcp_state.specs.View.{View, IsSound}
use Rattle.sockets.specs.declared.entry.Entry.{Entry}
use Rattle.sockets.specs.declared.entry.SocketId.{SocketId}
use Rattle.sockets.specs.Ids.{has_id}
use Rattle.sockets.specs.Sound.{IsSoundRole, IsSoundConnection}
use Rattle.sockets.specs.SocketsView.{later_moment}
use Rattle.sockets.specs.Steps.{connected}
use Rattle.sockets.proofs.OfferCounts.{all-found}
use Rattle.host.specs.ConfigView.{ConfigView}
use Rattle.host.specs.Emission.{emission}
use Rattle.host.specs.Heard.{heard_by}
use Rattle.host.specs.HostView.{HostView}
use Rattle.host.specs.Runs.{Event, Calls, Ticks, Delivers, Emits, IsAsked, IsNumbered, IsOfOctets, Makes, Runs}
use Rattle.host.specs.Sound.{IsSoundHost}
use Rattle.host.specs.Ticks.{lacks_hop}
use Rattle.host.proofs.Ran.{set_up-stays}
use Rattle.host.proofs.Sized.{segments_fit}
use Rattle.host.proofs.Tables.{run-ordered}
use Rattle.host_law.specs.Coming.{IsHeard}
use Rattle.host_law.specs.Going.{GoesOut, TakesNumbers}
use Rattle.host_law.specs.History.{connection_of}
use Rattle.host_law.proofs.Befalls.{Befalls, FitsWidths, IsDueOf, IsOfConnection}
use Rattle.host_law.proofs.LedCalls.{call_led}
use Rattle.host_law.proofs.LedFrames.{frame_led, emission_led, tick_led}
use Rattle.host_law.proofs.LedOut.{out_due, out_from}
use Rattle.host_law.proofs.LedSent.{goes_out}
use Rattle.host_law.proofs.LedReplies.{run-bare}
use Rattle.host_law.proofs.TableViews.{seen_entry}

-- What befalls it.
pub befalls_of : (c : ConfigView) (events : List Event) (old new : HostView) (event : Event) → Runs c events old → IsSoundHost old → IsNumbered event → IsAsked c event → Makes event old new → (id : SocketId)
    → Befalls c id (record { before = old; event = event; after = new }) (connection_of id old) (connection_of id new)
befalls_of c events old new (Calls call) ran sound small asked makes id = call_led c id old new (run-ordered c events old ran) call makes.0 small asked (ap (λ (w : HostView). w.sockets) makes.1)
befalls_of c events old new (Ticks now) ran sound small asked makes id =
    let moment : Moment = later_moment old.sockets now in
    tick_led c id old new now moment (lacks_hop old moment) (run-ordered c events old ran) (ap (λ (w : HostView). w.sockets) makes)
befalls_of c events old new (Delivers now isn octets) ran sound small asked makes id =
    let stays = set_up-stays c events old ran in
    frame_led c id old new now isn octets (run-ordered c events old ran) small stays.0 stays.1 stays.2 (later_moment old.sockets now) makes.0 (heard_by old octets) refl makes.1
befalls_of c events old new (Emits now) ran sound small asked makes id =
    let moment : Moment = later_moment old.sockets now in
    let stays = set_up-stays c events old ran in
    let o = run-ordered c events old ran in
    emission_led c id old new now o moment (emission old moment) (goes_out c id old new now sound o stays.1 stays.2) makes

-- each connection is sound
pub sound_of : (old : HostView) (id : SocketId) (v : View) → IsSoundHost old → connection_of id old ≡ Some v → IsSound v
sound_of old id v sound sees =
    let there = seen_entry old.sockets id v sees in
    let table = sound.table in
    let solid : IsSoundConnection v = all-found (λ (x : Entry). IsSoundRole x.role) (has_id id) (let t = old.sockets in t.entries) (connected id v there.0) table.entries there.1 in
    solid.sound

-- what octets say has the widths of its fields
widths_of : (mac : Mac) (ours source : Addr) (octets : List ℕ) (s : Segment) → All (λ octet. octet < 256) octets → heard mac ours octets ≡ Ok (Tcp (record { source = source; segment = s })) → FitsWidths s
widths_of mac ours source octets s each means =
    let spells = (one_meaning mac ours octets (Ok (Tcp (record { source = source; segment = s }))) each).1 means in
    let form : HasForm s _ = (let x = spells.2 in x.form) in
    let fields : FieldsFit s = form.fields in
    let few = segments_fit mac ours octets (record { source = source; segment = s }) means in
    record { number = fields.number; acknowledgement = fields.acknowledgement; octets = omega (arith, few) }

fits_of : (c : ConfigView) (old new : HostView) (event : Event) → IsOfOctets event → (id : SocketId) (v : View) (s : Segment) → IsHeard c id v s (record { before = old; event = event; after = new }) → FitsWidths s
fits_of c old new event each id v s h =
    let frame = h.frame in widths_of c.mac c.addr h.source frame.octets s (subst IsOfOctets frame.delivered each) frame.means

pub of_connection : (c : ConfigView) (events : List Event) (old new : HostView) (event : Event) → Runs c events old → IsSoundHost old → IsNumbered event → IsAsked c event → IsOfOctets event → Makes event old new → (id : SocketId)
    → IsOfConnection c id (record { before = old; event = event; after = new })
of_connection c events old new event ran sound small asked each makes id = record {
  befalls = befalls_of c events old new event ran sound small asked makes id;
  sound = λ v sees. sound_of old id v sound sees;
  fits = λ v s heard_it. fits_of c old new event each id v s heard_it;
}

-- What goes out with octets or a FIN is of one connection.
pub of_one : (c : ConfigView) (events : List Event) (old new : HostView) (event : Event) → Runs c events old → IsSoundHost old → (source to : Addr) (s : Segment) → GoesOut source to s (record { before = old; event = event; after = new })
    → TakesNumbers s → (source ≡ c.addr) × IsDueOf c old to s
of_one c events old new event ran sound source to s out brings =
    let o = run-ordered c events old ran in
    let stays = set_up-stays c events old ran in (
      out_from c old sound o stays.1 out.now out.mac source to s out.means,
      out_due c old sound o stays.2 (run-bare c events old ran) to s brings out.now out.mac source out.means,
    )

-- Over a run.

pub parted : (P : Event → Type 0) (events : List Event) (event : Event) → AllByRecursion P (events ++ event ∷ []) → AllByRecursion P events × P event
parted P [] event all = (tt, all.0)
parted P (e ∷ es) event all = let parts = parted P es event all.1 in ((all.0, parts.0), parts.1)
