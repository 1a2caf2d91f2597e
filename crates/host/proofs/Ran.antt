-- Why there is no host but one that a list of events led to, and what such a host keeps.
use Rattle.arp.specs.Cache.{Cache}
use Rattle.arp.proofs.History.{most_stays}
use Rattle.std.proofs.Common.{◌≡◌, ◌↔◌, ◌+◌, ◌∷◌, ◌++◌, [], Bool, true, false, List, Option, None, IsTrue, OnOk, OnErr, IfOk, Result, Ok, Err, is_ok, refl, sym, ◌∙◌, ap, subst, arith}
use Rattle.std.specs.Result.{result_err}
use Rattle.ipv4.specs.Addresses.{IsUnicast}
use Rattle.routes.specs.declared.route.Route.{Route}
use Rattle.interface.specs.Sound.{IsSound}
use Rattle.sockets.specs.declared.entry.Kind.{Kind}
use Rattle.sockets.specs.declared.entry.Kind.TheVariants.{Tcp, Udp}
use Rattle.sockets.specs.declared.entry.SocketId.{SocketId}
use Rattle.sockets.specs.declared.refusal.Refusal.{Refusal}
use Rattle.sockets.specs.declared.refusal.Refusal.TheVariants.{EMFILE}
use Rattle.sockets.specs.Calls.{is_table_full, IsMade}
use Rattle.sockets.specs.Causes as table
use Rattle.sockets.specs.Offered.{IsReached}
use Rattle.sockets.specs.Order.{IsAllowed, IsOrdered}
use Rattle.sockets.specs.Sound.{IsSoundTable, NoneIsOver}
use Rattle.sockets.specs.SocketsView.{SocketsView, room_of}
use Rattle.sockets.specs.Timing as timing
use Rattle.sockets.specs.Timing.{EachKeepsTime}
use Rattle.host.specs.ConfigView.{ConfigView, IsConfig}
use Rattle.host.specs.HostView.{HostView, new_host, with_sockets, sizes_of}
use Rattle.host.specs.Runs.{Event, Calls, IsAsked, IsCall, IsNumbered, IsOfOctets, Makes, Runs, Begins, GoesOn, HasRun, HasRunOnOctets}
use Rattle.host.specs.Sound.{IsSoundHost}
use Rattle.host.proofs.Causes.{all-behind, run-stands}
use Rattle.host.proofs.FrameSide.{run-side}
use Rattle.host.proofs.Tables.{run-addr, run-manner, run-reached, run-ordered, run-over, run-timed, run-sizes}

-- Nothing happened to it ..

pub run-begins : (c : ConfigView) (h : HostView) → IsConfig c → h ≡ new_host c → HasRunOnOctets h
run-begins c h set_up is = record { run = record { config = c; set_up = set_up; events = []; asked = tt; runs = subst (Runs c []) (sym is) Begins }; octets = tt }

-- .. or one event more.

run-on : (event : Event) (old new : HostView) → IsSoundHost old → (ran : HasRunOnOctets old) → IsNumbered event → IsOfOctets event → IsAsked ran.run.config event → Makes event old new → HasRunOnOctets new
run-on event old new sound ran small octets may makes = let run : HasRun old = ran.run in record {
  run = record {
    config = run.config;
    set_up = run.set_up;
    events = run.events ++ event ∷ [];
    asked = all-behind (IsAsked run.config) run.events event run.asked may;
    runs = GoesOn run.events event old new run.runs sound small makes;
  };
  octets = all-behind IsOfOctets run.events event ran.octets octets;
}

-- It finds the layers of a host that is sound.
pub ran : {old host : HostView} (event : Event) (new : HostView) → old ≡ host → IsSoundHost host → HasRunOnOctets old → IsNumbered event → IsOfOctets event → ((c : ConfigView) → IsAsked c event) → Makes event old new → HasRunOnOctets new
ran {old = old} event new is sound so small octets may makes = run-on event old new (subst IsSoundHost (sym is) sound) so small octets (may so.run.config) makes

-- A call makes one event of the table, where it isn't refused, and asks the host's own routes.
pub called : {T : Type 0} {old layers host : HostView} (r : Result T Refusal) (call : table.Event) (new : SocketsView) → old ≡ layers → layers ≡ host → IsSoundHost host → HasRunOnOctets layers
    → timing.IsNumbered call → IsCall old.interface.routes call → (is_ok r ≡ true → IsAllowed old.sockets call) → OnOk r (new ≡ table.after_event old.sockets call) → OnErr r (new ≡ old.sockets)
    → HasRunOnOctets (with_sockets old new)
called {old = old} (Ok value) call new opened is sound run small own allowed made same =
    let so : HasRunOnOctets old = subst HasRunOnOctets (sym opened) run in
    let keeps = run-side so.run.config so.run.events old so.run.runs in
    run-on (Calls call) old (with_sockets old new) (subst IsSoundHost (sym (opened ∙ is)) sound) so small tt (subst (λ (routes : List Route). IsCall routes call) keeps.same own) (allowed refl, ap (with_sockets old) made)
called {old = old} (Err refusal) call new opened is sound run small own allowed made same = subst HasRunOnOctets (sym opened ∙ sym (ap (with_sockets old) same)) run

-- that it isn't, by its refusal ..
pub unrefused : {T : Type 0} (r : Result T Refusal) (refusal : Option Refusal) → result_err r ≡ refusal → is_ok r ≡ true → refusal ≡ None
unrefused (Ok value) refusal is fine = sym is
unrefused (Err e) refusal is fine = cc

-- .. or its answer
pub answered : {T : Type 0} (r answer : Result T Refusal) → r ≡ answer → is_ok r ≡ true → is_ok answer ≡ true
answered r answer is fine = ap is_ok (sym is) ∙ fine

-- A socket is made where the table isn't full.

has-place : (r : Result SocketId Refusal) (full : Bool) → (r ≡ Err EMFILE) ↔ IsTrue full → is_ok r ≡ true → full ≡ false
has-place r false is fine = refl
has-place r true is fine = let refused : r ≡ Err EMFILE = is.1 refl in let no = sym (ap is_ok refused) ∙ fine in cc

pub made : {old layers host : HostView} (r : Result SocketId Refusal) (kind : Kind) (new : SocketsView) → old ≡ layers → layers ≡ host → IsSoundHost host → HasRunOnOctets layers
    → (r ≡ Err EMFILE) ↔ IsTrue (is_table_full old.sockets) → IfOk r (λ id. (id.0 ≡ old.sockets.last_id + 1) × IsMade kind old.sockets new) → OnErr r (new ≡ old.sockets) → HasRunOnOctets (with_sockets old new)
made {old = old} (Ok id) Tcp new opened is sound run full new_one same =
    called (Ok id) (table.Makes (room_of old.sockets.sizes.buffer old.sockets.manner)) new opened is sound run tt tt (λ fine. (has-place (Ok id) (is_table_full old.sockets) full fine, refl)) new_one.1 tt
made {old = old} (Ok id) Udp new opened is sound run full new_one same =
    called (Ok id) table.MakesDatagrams new opened is sound run tt tt (has-place (Ok id) (is_table_full old.sockets) full) new_one.1 tt
made (Err refusal) kind new opened is sound run full new_one same = called {T = SocketId} (Err refusal) table.MakesDatagrams new opened is sound run tt tt (λ fine. let no : false ≡ true = fine in cc) tt same

-- What is kept of it.

-- its set-up
pub set_up-stays : (c : ConfigView) (events : List Event) (h : HostView) → Runs c events h → (h.interface.mac ≡ c.mac) × (h.interface.addr ≡ c.addr) × (h.sockets.addr ≡ c.addr) × (h.interface.routes ≡ c.routes) × (h.sockets.manner ≡ c.manner) × (sizes_of h ≡ c.sizes)
set_up-stays c events h ran =
    let stands = run-stands c events h ran in
    let keeps = run-side c events h ran in
    let history = keeps.history in
    let known : h.interface.cache.most ≡ c.sizes.neighbours = ap (λ (x : Cache). x.most) history.is ∙ most_stays c.sizes.neighbours history.events in
    let table : h.sockets.sizes ≡ record { entries = c.sizes.entries; buffer = c.sizes.buffer } = run-sizes c events h ran in (
      stands.interface.mac,
      stands.interface.addr,
      run-addr c events h ran,
      keeps.same,
      run-manner c events h ran,
      λ k. record { entries = let s = table k in s.entries; buffer = let s = table k in s.buffer; reassemblies = stands.places k; reassembly_octets = stands.octets k; replies = keeps.most k; neighbours = known k },
    )

-- it is sound, where its sides are
pub run-sound : (h : HostView) → IsSound h.interface → IsSoundTable h.sockets → HasRun h → IsSoundHost h
run-sound h interface table run =
    let stands = run-stands run.config run.events h run.runs in
    let own : h.interface.addr ≡ run.config.addr = stands.interface.addr in
    record {
      interface = interface;
      table = table;
      own = own ∙ sym (run-addr run.config run.events h run.runs);
      single = subst IsUnicast (sym own) run.set_up.addr;
      pool = let most = run.set_up.sizes.reassemblies in omega (arith, stands.places, most.1);
    }

pub keeps-reached : (h : HostView) → HasRun h → IsReached h.sockets
keeps-reached h run = run-reached run.config run.events h run.runs

pub keeps-ordered : (h : HostView) → HasRun h → IsOrdered h.sockets
keeps-ordered h run = run-ordered run.config run.events h run.runs

pub keeps-over : (h : HostView) → HasRun h → NoneIsOver h.sockets
keeps-over h run = run-over run.config run.events h run.runs

pub keeps-timed : (h : HostView) → HasRun h → EachKeepsTime h.sockets
keeps-timed h run = run-timed run.config run.events h run.runs
