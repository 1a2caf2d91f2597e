-- A host whose layers were made for a set-up is one to which nothing happened.
use Rattle.std.proofs.Common.{◌≡◌, List, [], IfOk, Result, Ok, Err}
use Rattle.ether.specs.declared.mac.Mac.{Mac}
use Rattle.ipv4.specs.declared.addr.Addr.{Addr}
use Rattle.routes.specs.declared.route.Route.{Route}
use Rattle.tcp_halves.specs.declared.buffers.Manner.{Manner}
use Rattle.interface.specs.InterfaceView.{InterfaceView, fresh}
use Rattle.reassembly.specs.Reassembly.{PoolView, new_pool}
use Rattle.sockets.specs.declared.sizes.Sizes.{Sizes as TableSizes}
use Rattle.sockets.specs.SocketsView.{SocketsView, new_sockets}
use Rattle.host.specs.declared.sizes.Sizes.{Sizes}
use Rattle.host.specs.ConfigView.{ConfigView, IsConfig}
use Rattle.host.specs.HostView.{HostView, new_host}
use Rattle.host.specs.Runs.{HasRunOnOctets}
use Rattle.host.proofs.Ran.{run-begins}

pub run-made : {E F G : Type 0} (c : ConfigView) (mac : Mac) (addr : Addr) (routes : List Route) (manner : Manner) (sizes : Sizes) (of_table : TableSizes) (frames : Result InterfaceView E) (table : Result SocketsView F)
    → (places : Result PoolView G) → IsConfig c → mac ≡ c.mac → addr ≡ c.addr → routes ≡ c.routes → manner ≡ c.manner → sizes ≡ c.sizes → of_table ≡ record { entries = sizes.entries; buffer = sizes.buffer }
    → IfOk frames (λ x. x ≡ fresh sizes.neighbours sizes.replies mac addr routes) → IfOk table (λ t. t ≡ new_sockets addr manner of_table) → IfOk places (λ y. y ≡ new_pool sizes.reassemblies sizes.reassembly_octets)
    → IfOk frames (λ x. IfOk table (λ t. IfOk places (λ y. HasRunOnOctets (record { interface = x; sockets = t; pool = y; lately = [] }))))
run-made c mac addr routes manner sizes of_table (Ok x) (Ok t) (Ok y) set_up is_mac is_addr is_routes is_manner is_sizes is_of is_x is_table is_y =
    let is : ◌≡◌ {A = HostView} (record { interface = x; sockets = t; pool = y; lately = [] }) (new_host c) = cc in
    run-begins c _ set_up is
run-made c mac addr routes manner sizes of_table (Ok x) (Ok t) (Err e) set_up is_mac is_addr is_routes is_manner is_sizes is_of is_x is_table is_y = tt
run-made c mac addr routes manner sizes of_table (Ok x) (Err e) places set_up is_mac is_addr is_routes is_manner is_sizes is_of is_x is_table is_y = tt
run-made c mac addr routes manner sizes of_table (Err e) table places set_up is_mac is_addr is_routes is_manner is_sizes is_of is_x is_table is_y = tt
