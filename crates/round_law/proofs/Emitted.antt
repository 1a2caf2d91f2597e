-- Why what a connection that lives alone has due goes out first, and nothing where it has nothing due.
use Rattle.std.proofs.Common.{◌≡◌, Bool, true, false, ◌&&◌, ◌||◌, cond, if◌then◌else◌, List, [], ◌∷◌, ◌++◌, position, Option, Some, None, is_some, option_map, option_and_then, refl, ◌∙◌, ap}
use Rattle.std.specs.List.{find, list_any, AllByRecursion}
use Rattle.std.proofs.lemmas.List.Folds.{list_any-append}
use Rattle.clock.specs.declared.moment.Moment.{Moment}
use Rattle.ether.specs.declared.mac.Mac.{Mac}
use Rattle.ipv4.specs.declared.addr.Addr.{Addr}
use Rattle.ipv4.specs.declared.addr.Endpoint.{Endpoint}
use Rattle.tcp_segment.specs.Segment.{Segment}
use Rattle.interface.specs.declared.reply.Waiting.{Waiting}
use Rattle.interface.specs.declared.way.Way.TheVariants.{To}
use Rattle.interface.specs.Replies.{is_due, goes_out}
use Rattle.interface.specs.Ways.{way}
use Rattle.tcp_state.specs.declared.emission.Due.{Due}
use Rattle.tcp_state.specs.View.{View, is_closed}
use Rattle.tcp_state.specs.Due.{first_due, emitted_len as segment_len}
use Rattle.tcp_state.specs.Edges.{Event, after_event}
use Rattle.tcp_state.specs.Said.{segment_of}
use Rattle.tcp_state.proofs.Clocked.{emission_keeps}
use Rattle.sockets.specs.declared.emission.Emitted.{Emitted}
use Rattle.sockets.specs.declared.emission.Emitted.TheVariants as emitted
use Rattle.sockets.specs.declared.emission.Outgoing.{Outgoing}
use Rattle.sockets.specs.declared.emission.Outgoing.TheVariants as outgoing
use Rattle.sockets.specs.declared.entry.Entry.{Entry}
use Rattle.sockets.specs.declared.entry.SocketId.{SocketId}
use Rattle.sockets.specs.Entries.{is_kept, segment_due, due_to, sends, with_role, entries_after_step, role_after_emission, emission_fate_of}
use Rattle.sockets.specs.Emission.{Next, in_turn, is_behind}
use Rattle.sockets.specs.SocketsView.{SocketsView, later_moment}
use Rattle.sockets.specs.Steps.{connected}
use Rattle.sockets.specs.Lists.{change_first, remove_first}
use Rattle.sockets.proofs.Followed.{by_test}
use Rattle.sockets.proofs.InTurn.{later, turn_behind, turn_fails, turn_round}
use Rattle.sockets.proofs.Emitting.{next-found, next-none, segment_sent-found, emitted-found}
use Rattle.host.specs.HostView.{HostView, with_sockets}
use Rattle.host.specs.Emission.{Emission, Sends, Nothing, emission, emission_at, emission_by, emission_to, emission_len, table_emission, after_emission, goes_out_from, len_of, left_by, emitted_len}
use Rattle.host.specs.Carried.{Carried, carried, carried_by, due_segment}
use Rattle.host.proofs.Waiting.{later-twice}
use Rattle.round_law.specs.Alone.{IsSilent, IsAlone}
use Rattle.round_law.proofs.Staying.{HostStays, same_but}
use Rattle.round_law.proofs.Retained.{Fails, found_behind, none_found, changed_behind, all_of, all_parts}

-- what is silent sends nothing
silent_fails : (goes : Addr → Bool) (e : Entry) → IsSilent e → Fails (sends goes) e
silent_fails goes e silent = ap (λ (l : List (Endpoint × Outgoing)). is_some (find (λ due. goes due.0.addr) l)) silent.nothing

-- where none of the entries sends, the turn comes to none
silent_turn : (t : SocketsView) (test : Entry → Bool) (xs : List Entry) → AllByRecursion (Fails test) xs → AllByRecursion (Fails (in_turn t test)) xs
silent_turn t test xs fails = all_of (Fails test) (Fails (in_turn t test)) (λ e none. turn_fails t test e none) xs fails

none_later : (t : SocketsView) (test : Entry → Bool) (xs : List Entry) → AllByRecursion (Fails test) xs → list_any (later t test) xs ≡ false
none_later t test [] fails = refl
none_later t test (e ∷ rest) fails = let none = none_later t test rest fails.1 in by_behind (is_behind t e) none
  where
    by_behind : (b : Bool) → list_any (later t test) rest ≡ false → ((b && test e) || list_any (later t test) rest) ≡ false
    by_behind true none = rw (fails.0, none) refl
    by_behind false none = none

-- and where only one does, it comes to that one
turn_there : (t : SocketsView) (test : Entry → Bool) (before : List Entry) (x : Entry) (behind : List Entry) → t.entries ≡ before ++ x ∷ behind → AllByRecursion (Fails test) before → AllByRecursion (Fails test) behind → test x ≡ true → in_turn t test x ≡ true
turn_there t test before x behind is first last passes =
    by_test (is_behind t x) (λ past. turn_behind t test x passes past)
    (λ front. turn_round t test x passes
    (ap (list_any (later t test)) is ∙ list_any-append (later t test) before (x ∷ behind) ∙ rw (none_later t test before first, front, none_later t test behind last) refl))

-- where no reply waits, what goes out is of the table
from_table : (h : HostView) (moment : Moment) → h.interface.replies ≡ [] → emission h moment ≡ table_emission h moment
from_table h moment none = ap (λ (l : List Waiting). emission_at h moment (position (is_due h.interface moment) l)) none

-- nothing is due
pub nothing_due : (h : HostView) (id : SocketId) (c : View) (now : Moment) → IsAlone h id c → h.interface.replies ≡ [] → first_due c ≡ None → emission_len h now ≡ None
nothing_due h id c now alone idle none =
    let moment = later_moment h.sockets now in
    let goes = goes_out_from h moment in
    let x = connected id c None in
    let fails : sends goes x ≡ false = ap (λ (o : Option Due). is_some (find (λ due. goes due.0.addr) (segment_due c.peer o))) none in
    let silent = silent_fails goes in
    let all = all_parts (Fails (sends goes)) alone.before (x ∷ alone.behind) (all_of IsSilent (Fails (sends goes)) silent alone.before alone.silent_before) (fails, all_of IsSilent (Fails (sends goes)) silent alone.behind alone.silent_behind) in
    let turn = in_turn h.sockets (sends goes) in
    let found : find turn h.sockets.entries ≡ None = ap (λ (l : List Entry). find turn l) alone.entries ∙ none_found turn (alone.before ++ x ∷ alone.behind) (silent_turn h.sockets (sends goes) (alone.before ++ x ∷ alone.behind) all) in
    let out : emission h moment ≡ Nothing = from_table h moment idle ∙ ap (λ (o : Option Next). emission_to h moment (option_map (λ next. next.peer) o)) (next-none h.sockets goes found) in
    ap (len_of h moment) out

module _ (h : HostView) (id : SocketId) (c : View) (now : Moment) (alone : IsAlone h id c) (idle : h.interface.replies ≡ []) (due : Due) (first : first_due c ≡ Some due) (mac : Mac) (leads : way h.interface (later_moment h.sockets now) c.peer.addr ≡ To mac) where
  abbrev moment : Moment
  moment = later_moment h.sockets now

  abbrev goes : Addr → Bool
  goes = goes_out_from h moment

  abbrev x : Entry
  x = connected id c None

  abbrev its_due : Endpoint × Outgoing
  its_due = (c.peer, outgoing.Segment due)

  passes : goes c.peer.addr ≡ true
  passes = ap goes_out leads

  sends_it : due_to goes x.role ≡ Some its_due
  sends_it = ap (λ (o : Option Due). find (λ due. goes due.0.addr) (segment_due c.peer o)) first ∙ ap (λ b. cond b (Some its_due) None) passes

  sends_some : sends goes x ≡ true
  sends_some = ap (λ (o : Option (Endpoint × Outgoing)). is_some o) sends_it

  silent_before : AllByRecursion (Fails (sends goes)) alone.before
  silent_before = all_of IsSilent (Fails (sends goes)) (silent_fails goes) alone.before alone.silent_before

  silent_behind : AllByRecursion (Fails (sends goes)) alone.behind
  silent_behind = all_of IsSilent (Fails (sends goes)) (silent_fails goes) alone.behind alone.silent_behind

  abbrev turn : Entry → Bool
  turn = in_turn h.sockets (sends goes)

  has_turn : turn x ≡ true
  has_turn = turn_there h.sockets (sends goes) alone.before x alone.behind alone.entries silent_before silent_behind sends_some

  turn_before : AllByRecursion (Fails turn) alone.before
  turn_before = silent_turn h.sockets (sends goes) alone.before silent_before

  found : find turn h.sockets.entries ≡ Some x
  found = ap (λ (l : List Entry). find turn l) alone.entries ∙ found_behind turn alone.before x alone.behind turn_before has_turn

  out : emission h moment ≡ Sends mac c.peer.addr
  out =
      from_table h moment idle
      ∙ (ap (λ (o : Option Next). emission_to h moment (option_map (λ next. next.peer) o)) (next-found h.sockets goes x its_due found sends_it)
      ∙ ap (emission_by c.peer.addr) leads)

  pub carries_due : carried h now ≡ Some (record { mac = mac; to = c.peer.addr; segment = segment_of c due })
  carries_due =
      let as_carried : Segment → Carried = λ s. record { mac = mac; to = c.peer.addr; segment = s } in
      ap (carried_by h moment) out
      ∙ (ap (λ (o : Option Entry). option_map as_carried (option_and_then (λ e. due_segment e.role) o)) found
      ∙ ap (λ (o : Option Due). option_map as_carried (option_map (segment_of c) o)) first)

  pub goes_out_now : is_some (emission_len h now) ≡ true
  goes_out_now =
      ap (λ (e : Emission). is_some (len_of h moment e)) out
      ∙ (ap (λ (o : Option Emitted). is_some (option_map emitted_len o)) (emitted-found h.sockets goes x its_due found sends_it)
      ∙ ap (λ (o : Option Due). is_some (option_map emitted_len (option_map (λ d. emitted.Segment (segment_len c d)) o))) first)

  abbrev pub sent_view : View
  sent_view = after_event c (Event.Emits moment)

  lives_at : (m : Moment) → is_closed (after_event c (Event.Emits m)).state ≡ false
  lives_at m = ap (λ (v : View). is_closed v.state) (emission_keeps c (first_due c) m) ∙ alone.lives

  goes_on : (m : Moment) → is_kept (emission_fate_of (role_after_emission m (outgoing.Segment due) x.role)) ≡ true
  goes_on m = rw (lives_at m) refl

  stepped : (m : Moment) → entries_after_step (emission_fate_of (role_after_emission m (outgoing.Segment due) x.role)) turn (role_after_emission m (outgoing.Segment due)) h.sockets.entries
      ≡ alone.before ++ connected id (after_event c (Event.Emits m)) None ∷ alone.behind
  stepped m =
      let change = with_role (role_after_emission m (outgoing.Segment due)) in
      ap (λ b. if b then change_first turn change h.sockets.entries else remove_first turn h.sockets.entries) (goes_on m)
      ∙ (ap (λ (l : List Entry). change_first turn change l) alone.entries ∙ changed_behind turn change alone.before x alone.behind turn_before has_turn)

  sent : after_emission h now ≡ with_sockets h (record h.sockets { turn = id; entries = alone.before ++ connected id sent_view None ∷ alone.behind })
  sent =
      ap (left_by h moment) out
      ∙ ap (with_sockets h) (segment_sent-found h.sockets goes moment x its_due found sends_it
      ∙ (ap (λ (m : Moment). let t : SocketsView = record h.sockets { turn = id; entries = entries_after_step (emission_fate_of (role_after_emission m (outgoing.Segment due) x.role)) turn (role_after_emission m (outgoing.Segment due)) h.sockets.entries } in t) (later-twice h.sockets now)
      ∙ ap (λ (l : List Entry). let t : SocketsView = record h.sockets { turn = id; entries = l } in t) (stepped moment)))

  pub emitted_alone : IsAlone (after_emission h now) id sent_view
  emitted_alone = record {
    before = alone.before;
    behind = alone.behind;
    entries = ap (λ (g : HostView). let t = g.sockets in t.entries) sent;
    named = alone.named;
    silent_before = alone.silent_before;
    silent_behind = alone.silent_behind;
    lives = lives_at moment;
    called = ap (λ (v : View). v.released) (emission_keeps c (first_due c) moment) ∙ alone.called;
  }

  pub emitted_interface : (let g = after_emission h now in g.interface) ≡ h.interface
  emitted_interface = ap (λ (g : HostView). g.interface) sent

  pub emitted_stays : HostStays h (after_emission h now)
  emitted_stays = record { interface = same_but _ _ emitted_interface; moment = ap (λ (g : HostView). let t = g.sockets in t.kept) sent; addr = ap (λ (g : HostView). let t = g.sockets in t.addr) sent; manner = ap (λ (g : HostView). let t = g.sockets in t.manner) sent }

pub due_out : (h : HostView) (id : SocketId) (c : View) (now : Moment) (due : Due) (mac : Mac) → IsAlone h id c → h.interface.replies ≡ [] → first_due c ≡ Some due → way h.interface (later_moment h.sockets now) c.peer.addr ≡ To mac
    → (carried h now ≡ Some (record { mac = mac; to = c.peer.addr; segment = segment_of c due })) × (is_some (emission_len h now) ≡ true) × IsAlone (after_emission h now) id (after_event c (Event.Emits (later_moment h.sockets now)))
due_out h id c now due mac alone idle first leads = (carries_due h id c now alone idle due first mac leads, goes_out_now h id c now alone idle due first mac leads, emitted_alone h id c now alone idle due first mac leads)
