-- Why an error that a connection of the table tells stays told.
use Rattle.std.proofs.Common.{◌≡◌, ℕ, ◌+◌, ◌≤◌, ◌<◌, cond, List, [], ◌∷◌, Option, Some, None, is_some, refl, sym, ◌∙◌, ap, arith}
use Rattle.std.proofs.lemmas.Bool.{eqb-true}
use Rattle.std.specs.List.{find, AllByRecursion}
use Rattle.tcp_state.specs.View.{View}
use Rattle.tcp_state.specs.Edges as edge
use Rattle.tcp_state.specs.declared.calls.Refusal.{Refusal as Error}
use Rattle.tcp_state.proofs.Edges.{and_left}
use Rattle.tcp_state.proofs.Errors.{errors_kept}
use Rattle.sockets.specs.declared.entry.SocketId.{SocketId}
use Rattle.sockets.specs.declared.entry.Entry.{Entry}
use Rattle.sockets.specs.declared.role.Role.{Role}
use Rattle.sockets.specs.declared.role.Role.TheVariants.{Connected}
use Rattle.sockets.specs.Entries.{is_socket}
use Rattle.sockets.specs.Ids.{AreAscending}
use Rattle.sockets.specs.Order.{IsOrdered}
use Rattle.sockets.specs.Causes.{Event, after_event, pending_error_in, TellsStill}
use Rattle.sockets.specs.Sound.{IsSoundRole, IsSoundTable}
use Rattle.sockets.specs.SocketsView.{SocketsView, role_of}
use Rattle.sockets.specs.Timing.{KeepsTimeIn, EachKeepsTime, AreSound}
use Rattle.sockets.specs.Traffic.{after_events}
use Rattle.sockets.proofs.Followed.{by_test, all_joined}
use Rattle.sockets.proofs.Numbered.{never_back}
use Rattle.sockets.proofs.OfferCounts.{by_option}
use Rattle.sockets.proofs.Steps.{IsStepOf, stays, moves, binds, listens, opens, accepted, requeues, binds_datagrams, IsJoining, made, made_datagrams, called, IsStepped, followed, joined, stepped}
use Rattle.sockets.proofs.Timed.{all_left, each_timed}

module _ (id : SocketId) (error : Error) where
  -- an entry of another id, or one that tells the error
  abbrev Tells : Entry → Type 0
  Tells x = x.id ≡ id → pending_error_in x.role ≡ Some error

  -- what holds of both
  abbrev Keeps : Entry → Type 0
  Keeps x = IsSoundRole x.role × KeepsTimeIn x.role

  both : (entries : List Entry) → AllByRecursion (λ (x : Entry). IsSoundRole x.role) entries → AllByRecursion (λ (x : Entry). KeepsTimeIn x.role) entries → AllByRecursion Keeps entries
  both [] sound keeps = tt
  both (x ∷ xs) sound keeps = ((sound.0, keeps.0), both xs sound.1 keeps.1)

  told_on : (c : View) (ev : edge.Event) (l : Option SocketId) → Keeps (record { id = id; role = Connected c l }) → c.pending_error ≡ Some error → (let d = edge.after_event c ev in d.pending_error) ≡ Some error
  told_on c ev l keeps told = errors_kept c ev keeps.0.sound keeps.1.0 (ap (λ (o : Option Error). is_some o) told) ∙ told

  step_tells : (h : SocketsView) (e : Event) (x y : Entry) → IsStepOf h e x (Some y) → Keeps x → Tells x → Tells y
  step_tells h e x _ stays keeps tells = tells
  step_tells h e _ _ (moves ev i c l meets is) keeps tells = λ same. told_on c ev l keeps (tells same)
  step_tells h _ _ _ (binds named asked i buffers bound local names) keeps tells = tells
  step_tells h _ _ _ (listens named backlog i buffers local names) keeps tells = tells
  step_tells h _ _ _ (opens now isn named peer routed i buffers bound local names) keeps tells = tells
  step_tells h _ _ _ (accepted named i c l next) keeps tells = tells
  step_tells h e _ _ (requeues i bound before after) keeps tells = tells
  step_tells h e _ _ (binds_datagrams i bound local before after takes) keeps tells = tells

  joining_tells : (h : SocketsView) (e : Event) (x : Entry) → id.0 ≤ h.last_id → IsJoining h e x → Tells x
  joining_tells h _ x given (made buffers) = λ same. let bad : h.last_id + 1 ≡ id.0 = ap (λ (i : SocketId). i.0) same in absurd (omega (arith, bad, given))
  joining_tells h _ x given made_datagrams = λ same. let bad : h.last_id + 1 ≡ id.0 = ap (λ (i : SocketId). i.0) same in absurd (omega (arith, bad, given))
  joining_tells h _ x given (called now isn source s listener call) = λ same. let bad : h.last_id + 1 ≡ id.0 = ap (λ (i : SocketId). i.0) same in absurd (omega (arith, bad, given))

pub tells_on : (h : SocketsView) (e : Event) (id : SocketId) (error : Error) → IsSoundTable h → EachKeepsTime h → id.0 ≤ h.last_id → TellsStill id error h → TellsStill id error (after_event h e)
tells_on h e id error sound keeps given all = by_step (after_event h e) (stepped h e)
  where
    by_step : (w : SocketsView) → IsStepped h e w → TellsStill id error w
    by_step w (followed f) = all_left (IsStepOf h e) (Keeps id error) (Tells id error) (step_tells id error h e) h.entries w.entries f.entries (both id error h.entries sound.entries keeps) all
    by_step _ (joined {x = x} j) = all_joined (Tells id error) h.entries x all (joining_tells id error h e x given j)

pub tells_led : (h : SocketsView) (events : List Event) (id : SocketId) (error : Error) → AreSound h events → EachKeepsTime h → id.0 ≤ h.last_id → TellsStill id error h → TellsStill id error (after_events h events)
tells_led h [] id error sound keeps given all = all
tells_led h (e ∷ rest) id error sound keeps given all =
    let back : (let w = after_event h e in h.last_id ≤ w.last_id) = never_back h e in
    tells_led (after_event h e) rest id error sound.2 (each_timed h e sound.0 sound.1 keeps) (omega (arith, given, back)) (tells_on h e id error sound.0 keeps given all)

-- Sockets.

-- of two entries that stand in order of id one has this id at most
above_apart : (id : SocketId) (error : Error) (before last : ℕ) (xs : List Entry) → id.0 ≤ before → AreAscending before last xs → AllByRecursion (Tells id error) xs
above_apart id error before last [] below ids = tt
above_apart id error before last (x ∷ xs) below ids = (
  λ same. let bad : x.id.0 ≡ id.0 = ap (λ (i : SocketId). i.0) same in absurd (omega (arith, bad, below, ids.0)),
  above_apart id error x.id.0 last xs (omega (arith, below, ids.0)) ids.1,
)

last_above : (before last : ℕ) (xs : List Entry) → AreAscending before last xs → before ≤ last
last_above before last [] ids = ids
last_above before last (x ∷ xs) ids = omega (arith, ids.0, last_above x.id.0 last xs ids.1)

found_tells : (id : SocketId) (error : Error) (before last : ℕ) (xs : List Entry) (x : Entry) → AreAscending before last xs → find (is_socket id) xs ≡ Some x → pending_error_in x.role ≡ Some error
    → AllByRecursion (Tells id error) xs × (before < id.0) × (id.0 ≤ last)
found_tells id error before last [] x ids found told = cc
found_tells id error before last (y ∷ ys) x ids found told =
    by_test (is_socket id y)
    (λ here.
    let same : y ≡ x = (let one : Some y ≡ Some x = ap (λ b. cond b (Some y) (find (is_socket id) ys)) (sym here) ∙ found in cc) in
    let at : y.id.0 ≡ id.0 = eqb-true y.id.0 id.0 (and_left _ _ here) in
    ((λ own. ap (λ (e : Entry). pending_error_in e.role) same ∙ told, above_apart id error y.id.0 last ys (omega (arith, at)) ids.1), omega (arith, at, ids.0), omega (arith, at, last_above y.id.0 last ys ids.1)))
    (λ there.
    let rest = found_tells id error y.id.0 last ys x ids.1 (ap (λ b. cond b (Some y) (find (is_socket id) ys)) (sym there) ∙ found) told in
    ((λ own. let bad : y.id.0 ≡ id.0 = ap (λ (i : SocketId). i.0) own in absurd (omega (arith, bad, rest.1)), rest.0), omega (arith, ids.0, rest.1), rest.2))

-- what all entries tell, a socket's does
told_of : (id : SocketId) (error : Error) (xs : List Entry) (x : Entry) → AllByRecursion (Tells id error) xs → find (is_socket id) xs ≡ Some x → pending_error_in x.role ≡ Some error
told_of id error [] x all found = cc
told_of id error (y ∷ ys) x all found =
    by_test (is_socket id y)
    (λ here.
    let same : y ≡ x = (let one : Some y ≡ Some x = ap (λ b. cond b (Some y) (find (is_socket id) ys)) (sym here) ∙ found in cc) in
    let at : y.id.0 ≡ id.0 = eqb-true y.id.0 id.0 (and_left _ _ here) in
    ap (λ (e : Entry). pending_error_in e.role) (sym same) ∙ all.0 (ap (λ (n : ℕ). let i : SocketId = record { 0 = n } in i) at))
    (λ there. told_of id error ys x all.1 (ap (λ b. cond b (Some y) (find (is_socket id) ys)) (sym there) ∙ found))

-- the role of a socket is that of an entry that is found
pub role_found : (h : SocketsView) (id : SocketId) (role : Role) → role_of h id ≡ Some role → (x : Entry) × (find (is_socket id) h.entries ≡ Some x) × (x.role ≡ role)
role_found h id role is =
    by_option (find (is_socket id) h.entries)
    (λ none. let bad : role_of h id ≡ None = rw none refl in let clash : ◌≡◌ {A = Option Role} None (Some role) = sym bad ∙ is in cc)
    (λ x found. let there : role_of h id ≡ Some x.role = rw found refl in let same : ◌≡◌ {A = Option Role} (Some x.role) (Some role) = sym there ∙ is in (x, found, cc))

-- what a socket's connection tells, each entry with its id does, and the id was given
pub socket_told : (h : SocketsView) (id : SocketId) (c : View) (listener : Option SocketId) (error : Error) → IsOrdered h → role_of h id ≡ Some (Connected c listener) → c.pending_error ≡ Some error → TellsStill id error h × (id.0 ≤ h.last_id)
socket_told h id c listener error o is told =
    let first = role_found h id (Connected c listener) is in
    let tells = found_tells id error 0 h.last_id h.entries first.0 o.ids first.1 (ap pending_error_in first.2 ∙ told) in
    (tells.0, tells.2)

-- and what each entry with its id tells, its role does
pub role_tells : (h : SocketsView) (id : SocketId) (error : Error) (role : Role) → TellsStill id error h → role_of h id ≡ Some role → pending_error_in role ≡ Some error
role_tells h id error role all now = let last = role_found h id role now in ap pending_error_in (sym last.2) ∙ told_of id error h.entries last.0 all last.1

pub socket_tells : (h : SocketsView) (events : List Event) (id : SocketId) (c : View) (listener : Option SocketId) (error : Error) → IsOrdered h → AreSound h events → EachKeepsTime h → role_of h id ≡ Some (Connected c listener) → c.pending_error ≡ Some error
    → (let later = after_events h events in (role : Role) → role_of later id ≡ Some role → pending_error_in role ≡ Some error)
socket_tells h events id c listener error o sound keeps is told role now =
    let tells = socket_told h id c listener error o is told in
    role_tells (after_events h events) id error role (tells_led h events id error sound keeps tells.1 tells.0) now
