-- The counters of a host that a handle holds, and how they are told.
use Rattle.std.specs.Prelude.{◌≡◌, ◌≢◌, ◌⊎◌, ℕ, ℤ, pos, List, [], ◌∷◌, length, Option, Some, None, option_map, Result, Ok, Err}
use Rattle.clock.specs.declared.moment.Moment.{Moment}
use Rattle.frames.specs.declared.drop.DropCause.{DropCause}
use Rattle.sockets.specs.declared.refusal.Refusal.{Refusal}
use Rattle.sockets.specs.declared.refusal.Refusal.TheVariants.{EBADF}
use Rattle.host.specs.Emission.{emission_len}
use Rattle.host.specs.GivenUp.{gives_up}
use Rattle.host.specs.GiveWay.{with_way}
use Rattle.host.specs.HostView.{HostView}
use Rattle.host.specs.Lack.{lack}
use Rattle.counters.specs.declared.counters.Counters.{Counters}
use Rattle.counters.specs.Counting.{Came, Ticked, after_event, after_going, new_counters}
use Rattle.hostc.specs.Numbers.{taken, told}

-- of a host that is made nothing is counted yet, and where none is made all stays
abbrev pub CountsAnew : ℤ → Option Counters → Option Counters → Type 0
CountsAnew answer old new = ((answer ≡ pos 0) × (new ≡ Some new_counters)) ⊎ ((answer ≢ pos 0) × (new ≡ old))

-- a frame is counted with its octets and the answer that is told, and with what it found no room at
abbrev pub CountsFrame : Option HostView → List ℕ → ℤ → Option Counters → Option Counters → Type 0
CountsFrame None octets answer old new = new ≡ old
CountsFrame (Some h) octets answer old new =
    (verdict : Result (Unit {0}) DropCause) × (answer ≡ taken verdict) × (new ≡ option_map (λ c. after_event c (Came (length octets) verdict (lack (with_way h octets) octets))) old)

-- a frame that goes out at a moment is counted with its octets
abbrev pub counters_after_emission : Option HostView → Moment → Option Counters → Option Counters
counters_after_emission None now c = c
counters_after_emission (Some h) now c = option_map (λ old. after_going old (emission_len h now)) c

-- what a tick at a moment gives up is counted
abbrev pub counters_after_tick : Option HostView → Moment → Option Counters → Option Counters
counters_after_tick None now c = c
counters_after_tick (Some h) now c = option_map (λ old. after_event old (Ticked (gives_up h now))) c

-- 0; EBADF of a handle that holds no host
abbrev pub counters_answer : Option Counters → Result ℕ Refusal
counters_answer None = Err EBADF
counters_answer (Some c) = Ok 0

-- the numbers of `struct host_counters` behind its size, in their order
abbrev pub counter_numbers : Counters → List ℤ
counter_numbers c =
    told c.frames_in ∷ told c.octets_in ∷ told c.frames_out ∷ told c.octets_out
    ∷ told c.drops.short ∷ told c.drops.other_mac ∷ told c.drops.other_type
    ∷ told c.drops.ip_header ∷ told c.drops.ip_sum ∷ told c.drops.other_address
    ∷ told c.drops.upper_header ∷ told c.drops.upper_sum ∷ told c.drops.fragment
    ∷ told c.lacks.backlog ∷ told c.lacks.table ∷ told c.lacks.memory ∷ told c.lacks.replies
    ∷ told c.lacks.queue ∷ told c.lacks.reassembly ∷ told c.lacks.route
    ∷ told c.given_up.replies ∷ told c.given_up.resets ∷ told c.given_up.datagrams
    ∷ []
