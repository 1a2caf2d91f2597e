-- Why every connection of the table keeps its timers and its congestion window.
use Rattle.std.proofs.Common.{inl, inr, List, [], ◌∷◌, Option, Some, sym, subst}
use Rattle.std.specs.List.{AllByRecursion}
use Rattle.ipv4.specs.declared.addr.Addr.{Addr}
use Rattle.tcp_halves.specs.declared.buffers.Manner.{Manner}
use Rattle.tcp_state.proofs.Timers.{stays_timed, opened_timed, accepted_timed}
use Rattle.tcp_state.proofs.Congestion.{stays_kept, opened_kept, accepted_kept}
use Rattle.sockets.specs.declared.sizes.Sizes.{Sizes}
use Rattle.sockets.specs.Arrival.{room_for}
use Rattle.sockets.specs.declared.entry.Entry.{Entry}
use Rattle.sockets.specs.Causes.{Event, Follows, after_event}
use Rattle.sockets.specs.Sound.{IsSoundRole, IsSoundTable}
use Rattle.sockets.specs.SocketsView.{SocketsView, new_sockets, later_moment}
use Rattle.sockets.specs.Timing.{KeepsTimeIn, EachKeepsTime, IsNumbered}
use Rattle.sockets.proofs.Followed.{IsNothing, all_joined}
use Rattle.sockets.proofs.Steps.{IsStepOf, stays, moves, binds, listens, opens, accepted, requeues, binds_datagrams, IsJoining, made, made_datagrams, called, IsStepped, followed, joined, stepped}

-- what a step keeps of an entry that is this by then holds of all that is left
pub all_left : (Step : Entry → Option Entry → Type 0) (Q P : Entry → Type 0) → ((x y : Entry) → Step x (Some y) → Q x → P x → P y) → (xs ys : List Entry) → Follows Step IsNothing xs ys → AllByRecursion Q xs → AllByRecursion P xs → AllByRecursion P ys
all_left Step Q P keeps [] ys f sound all = subst (λ (ws : List Entry). AllByRecursion P ws) (sym f) tt
all_left Step Q P keeps (x ∷ xs) [] f sound all = tt
all_left Step Q P keeps (x ∷ xs) (y ∷ ys) (inl f) sound all = (keeps x y f.0 sound.0 all.0, all_left Step Q P keeps xs ys f.1 sound.1 all.1)
all_left Step Q P keeps (x ∷ xs) (y ∷ ys) (inr f) sound all = all_left Step Q P keeps xs (y ∷ ys) f.1 sound.1 all.1

step_timed : (h : SocketsView) (e : Event) → IsNumbered e → (x y : Entry) → IsStepOf h e x (Some y) → IsSoundRole x.role → KeepsTimeIn x.role → KeepsTimeIn y.role
step_timed h e small x _ stays sound keeps = keeps
step_timed h e small _ _ (moves ev id c l meets kept) sound keeps = (stays_timed c ev sound.sound keeps.0, stays_kept c ev sound.sound keeps.1)
step_timed h _ small _ _ (binds named asked id buffers bound local names) sound keeps = tt
step_timed h _ small _ _ (listens named backlog id buffers local names) sound keeps = tt
step_timed h _ small _ _ (opens now isn named peer routed id buffers bound local names) sound keeps = (opened_timed buffers local peer isn (later_moment h now) small, opened_kept buffers local peer isn (later_moment h now))
step_timed h _ small _ _ (accepted named id c l next) sound keeps = keeps
step_timed h e small _ _ (requeues id bound before after) sound keeps = tt
step_timed h e small _ _ (binds_datagrams id bound local before after takes) sound keeps = tt

joining_timed : (h : SocketsView) (e : Event) → IsNumbered e → (x : Entry) → IsJoining h e x → KeepsTimeIn x.role
joining_timed h _ small _ (made buffers) = tt
joining_timed h _ small _ made_datagrams = tt
joining_timed h _ small _ (called now isn source s listener call) =
    (accepted_timed (room_for h s) _ _ isn s (later_moment h now) small, accepted_kept (room_for h s) _ _ isn s (later_moment h now))

pub each_timed : (h : SocketsView) (e : Event) → IsSoundTable h → IsNumbered e → EachKeepsTime h → EachKeepsTime (after_event h e)
each_timed h e sound small all = by_step (after_event h e) (stepped h e)
  where
    by_step : (w : SocketsView) → IsStepped h e w → EachKeepsTime w
    by_step w (followed f) = all_left (IsStepOf h e) (λ (x : Entry). IsSoundRole x.role) (λ (x : Entry). KeepsTimeIn x.role) (step_timed h e small) h.entries w.entries f.entries sound.entries all
    by_step _ (joined {x = x} j) = all_joined (λ (y : Entry). KeepsTimeIn y.role) h.entries x all (joining_timed h e small x j)

pub fresh_timed : (addr : Addr) (manner : Manner) (sizes : Sizes) → EachKeepsTime (new_sockets addr manner sizes)
fresh_timed addr manner sizes = tt
