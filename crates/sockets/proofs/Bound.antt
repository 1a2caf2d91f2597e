-- What a bind makes of the table, and the port that it gives.
use Rattle.std.proofs.Common.{◌≡◌, ℕ, ◌==◌, ◌&&◌, not, if◌then◌else◌, Bool, true, Some, None, Result, Ok, Err, sym, ◌∙◌, subst, refl, arith}
use Rattle.std.proofs.lemmas.Grind.{common_steps}
use Rattle.std.specs.Option.{ok_or}
use Rattle.std.specs.Result.{result_err}
use Rattle.ipv4.specs.declared.addr.Endpoint.{Endpoint}
use Rattle.ipv4.specs.Addresses.{same_addr}
use Rattle.sockets.specs.declared.entry.SocketId.{SocketId}
use Rattle.sockets.specs.declared.refusal.Refusal.{Refusal}
use Rattle.sockets.specs.declared.refusal.Refusal.TheVariants.{EADDRINUSE, EADDRNOTAVAIL}
use Rattle.sockets.specs.Entries.{role_after_bind}
use Rattle.sockets.specs.Ports.{IsDynamic, first_port}
use Rattle.sockets.specs.SocketsView.{SocketsView, with_socket}
use Rattle.sockets.specs.Calls.{any_addr, free_port, port_at, port_bound, last_port_bound, after_bind}
use Rattle.sockets.proofs.Connected.{some_from_ok}
use Rattle.sockets.proofs.FirstPorts.{given_passes, given_dynamic}
use Rattle.sockets.proofs.Followed.{by_test}

pub bind-given : (h : SocketsView) (id : SocketId) (local : Endpoint) (port : ℕ) → port_bound h id local ≡ Ok port → after_bind h id local ≡ with_socket (record h { last_port = last_port_bound h local port }) id (role_after_bind (record { addr = local.addr; port = port }))
bind-given h id local port given = rw given

-- a port that is given is free, and keeps the last one given dynamic
pub record IsGiven (h : SocketsView) (is_free : ℕ → Bool) (local : Endpoint) (port : ℕ) : Type 0 where
  pub free : is_free port ≡ true
  pub dynamic : IsDynamic h.last_port → IsDynamic (last_port_bound h local port)

pub port-given : (h : SocketsView) (is_free : ℕ → Bool) (local : Endpoint) (port : ℕ) → port_at h is_free local ≡ Ok port → IsGiven h is_free local port
port-given h is_free local port given =
    by_test (not (same_addr local.addr h.addr) && not (same_addr local.addr any_addr))
    (λ apart. let refused : port_at h is_free local ≡ Err EADDRNOTAVAIL = rw apart in cc)
    (λ ours. let asked : ok_or (free_port h is_free local.port) EADDRINUSE ≡ port_at h is_free local = rw ours in by_port (some_from_ok (free_port h is_free local.port) EADDRINUSE port (sym (asked ∙ given))))
  where
    asked_free : (if is_free local.port then Some local.port else None) ≡ Some port → is_free port ≡ true
    asked_free some = grind (arith, common_steps)

    by_port : free_port h is_free local.port ≡ Some port → IsGiven h is_free local port
    by_port some =
        by_test (local.port == 0)
        (λ none.
        let first : first_port is_free h.last_port 0 16384 ≡ free_port h is_free local.port = rw none in
        let counted : last_port_bound h local port ≡ port = rw none in
        record { free = given_passes is_free h.last_port 0 16384 port (first ∙ some); dynamic = λ d. subst IsDynamic (sym counted) (given_dynamic is_free h.last_port 0 16384 port (first ∙ some)) })
        (λ one.
        let tested : (if is_free local.port then Some local.port else None) ≡ free_port h is_free local.port = rw one in
        let counted : last_port_bound h local port ≡ h.last_port = rw one in
        let passed = asked_free (tested ∙ some) in
        record { free = passed; dynamic = λ d. subst IsDynamic (sym counted) d })

-- a bind that is not refused gives a port
pub port-allowed : (r : Result ℕ Refusal) → result_err r ≡ None → (port : ℕ) × (r ≡ Ok port)
port-allowed (Ok port) allowed = (port, refl)
port-allowed (Err refusal) allowed = cc
