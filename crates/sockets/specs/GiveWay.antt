-- Which connection gives way to another one where the host is on its guard: a half-open one whose peer doesn't answer, and one in TIME-WAIT that no caller has (RFC 9293 section 3.6.1, RFC 1122 section 4.2.2.13).
use Rattle.std.specs.Prelude.{◌≡◌, ◌⊎◌, ◌<◌, ◌≤◌, true, ℕ, ◌+◌, ◌^◌, ◌==◌, ◌&&◌, ◌||◌, not, Bool, false, if◌then◌else◌, List, length, fold, find, count_by, Option, Some, None, option_map, is_some}
use Rattle.std.specs.List.{AllByRecursion}
use Rattle.std.specs.Option.{option_or}
use Rattle.clock.specs.declared.moment.Moment.{Moment}
use Rattle.clock.specs.Moments.{sooner}
use Rattle.ipv4.specs.declared.addr.Addr.{Addr}
use Rattle.tcp_segment.specs.Segment.{Segment}
use Rattle.tcp_state.specs.View.{View}
use Rattle.tcp_state.specs.Way as of_connection
use Rattle.sockets.specs.declared.entry.SocketId.{SocketId}
use Rattle.sockets.specs.declared.entry.Entry.{Entry}
use Rattle.sockets.specs.declared.role.Role.{Role}
use Rattle.sockets.specs.declared.role.Role.TheVariants.{Idle, Listener, Connected, Datagrams}
use Rattle.sockets.specs.Entries.{in_connection, is_pending, is_half_open, is_between, is_listening_at, is_waiting_at, backlog_of}
use Rattle.sockets.specs.Ids.{has_id}
use Rattle.sockets.specs.Lists.{remove_first}
use Rattle.sockets.specs.SocketsView.{SocketsView}
use Rattle.sockets.specs.Arrival.{local_end, peer_end, is_opening}
use Rattle.sockets.specs.Needs.{is_backlog_full}

-- it waits at this listener, and its SYN-ACK went out a second ago or more and is not answered
abbrev pub is_unanswered_at : SocketId → Entry → Bool
is_unanswered_at listener x = is_waiting_at listener x && in_connection false of_connection.is_unanswered x.role

-- since when it is in TIME-WAIT, where its caller closed it
abbrev pub left_since : Role → Option Moment
left_since (Connected c None) = of_connection.left_since c
left_since (Connected c (Some listener)) = None
left_since (Listener local backlog) = None
left_since (Idle buffers bound) = None
left_since (Datagrams bound socket) = None

abbrev pub is_left_since : Moment → Role → Bool
is_left_since moment role = of_wait (left_since role)
  where
    of_wait : Option Moment → Bool
    of_wait None = false
    of_wait (Some since) = since.0 == moment.0

-- What may give way: what waits half open at a listener, and what waits in TIME-WAIT for nobody.
abbrev pub may_give_way : Entry → Bool
may_give_way x = (is_pending x.role && is_half_open x.role) || is_some (left_since x.role)

-- .. and is meant by a test
abbrev pub gives_way : (Entry → Bool) → Entry → Bool
gives_way meant x = meant x && may_give_way x

-- the first of these gives way, and goes without a reset
abbrev pub after_giving_way : SocketsView → (Entry → Bool) → SocketsView
after_giving_way h meant = record h { entries = remove_first (gives_way meant) h.entries }

-- Which one does.

-- the id of the first of these, which is the oldest: ids ascend
abbrev pub first_id : (Entry → Bool) → List Entry → Option SocketId
first_id test entries = option_map (λ x. x.id) (find test entries)

-- since when the one is in TIME-WAIT that is so longest, of those that no caller has
abbrev pub longest_left : List Entry → Option Moment
longest_left entries = fold (λ least x. sooner least (left_since x.role)) None entries

abbrev pub longest_id : List Entry → Option SocketId
longest_id entries = of_moment (longest_left entries)
  where
    of_moment : Option Moment → Option SocketId
    of_moment None = None
    of_moment (Some since) = first_id (λ x. is_left_since since x.role) entries

-- where the table is full
abbrev pub id_in_table : SocketsView → Option SocketId
id_in_table h = if length h.entries == h.sizes.entries then longest_id h.entries else None

-- To what would open at a listener: where the backlog is full or the table, its oldest that is not answered; or else, where the backlog has a place, what waits longest in TIME-WAIT.
abbrev pub id_at : SocketsView → Entry → Option SocketId
id_at h listener =
    if is_backlog_full h listener then first_id (is_unanswered_at listener.id) h.entries
    else if length h.entries == h.sizes.entries then option_or (first_id (is_unanswered_at listener.id) h.entries) (longest_id h.entries)
    else None

abbrev pub id_at_port : SocketsView → ℕ → Option SocketId
id_at_port h port = of_listener (find (is_listening_at port) h.entries)
  where
    of_listener : Option Entry → Option SocketId
    of_listener None = None
    of_listener (Some listener) = id_at h listener

-- a listener at this port has a place in its backlog
abbrev pub has_backlog_at : SocketsView → ℕ → Bool
has_backlog_at h port = of_listener (find (is_listening_at port) h.entries)
  where
    of_listener : Option Entry → Bool
    of_listener None = false
    of_listener (Some listener) = not (is_backlog_full h listener)

-- To what would open anew between the ends of one in TIME-WAIT, past all that was heard on that (RFC 1122 section 4.2.2.13): that one.
abbrev pub opens_anew : SocketsView → Segment → Role → Bool
opens_anew h s role = is_some (left_since role) && in_connection false (λ c. of_connection.lies_past c s) role && has_backlog_at h s.destination

abbrev pub id_for : SocketsView → Addr → Segment → Option SocketId
id_for h source s = if is_opening s.flags then of_entry (find (is_between (local_end h s) (peer_end source s)) h.entries) else None
  where
    of_entry : Option Entry → Option SocketId
    of_entry (Some e) = if opens_anew h s e.role then Some e.id else None
    of_entry None = id_at_port h s.destination

-- A host that is not on its guard has nothing give way, and none does where no id is left for another.
abbrev pub gives_places : SocketsView → Bool
gives_places h = h.manner.guards && not (h.last_id + 1 == 2 ^ 64)

-- what gives way to what a segment opens
abbrev pub way_for : SocketsView → Addr → Segment → Option SocketId
way_for h source s = if gives_places h then id_for h source s else None

-- .. and to a socket
abbrev pub way_for_socket : SocketsView → Option SocketId
way_for_socket h = if gives_places h then id_in_table h else None

-- it does, if there is one
abbrev pub without : SocketsView → Option SocketId → SocketsView
without h None = h
without h (Some id) = after_giving_way h (has_id id)

-- The laws' words.

-- of what waits at a listener unanswered none is older: none has a lower id
pub record IsOldestUnanswered (h : SocketsView) (listener : SocketId) (x : Entry) : Type 0 where
  pub waits : is_unanswered_at listener x ≡ true
  pub oldest : AllByRecursion (λ (y : Entry). is_unanswered_at listener y ≡ true → x.id.0 ≤ y.id.0) h.entries

-- of what is in TIME-WAIT for nobody none is so longer
pub record IsLongestLeft (h : SocketsView) (x : Entry) : Type 0 where
  pub since : Moment
  pub left : left_since x.role ≡ Some since
  pub longest : AllByRecursion (λ (y : Entry). (other : Moment) → left_since y.role ≡ Some other → since.0 ≤ other.0) h.entries

-- It stands between the ends of the segment, in TIME-WAIT for nobody, and the segment's number lies past all that was heard on it; and the listener's backlog has a place.
pub record IsOpenedAnew (h : SocketsView) (source : Addr) (s : Segment) (listener x : Entry) : Type 0 where
  pub between : find (is_between (local_end h s) (peer_end source s)) h.entries ≡ Some x
  pub connection : View
  pub connected : x.role ≡ Connected connection None
  pub left : is_some (of_connection.left_since connection) ≡ true
  pub past : of_connection.lies_past connection s ≡ true
  pub backlog : count_by (is_waiting_at listener.id) h.entries < backlog_of listener.role

-- A place is wanting to what opens at this listener. Its oldest unanswered gives way, or else, where its backlog has a place, what is longest in TIME-WAIT.
pub record IsForPlace (h : SocketsView) (listener x : Entry) : Type 0 where
  pub full : (backlog_of listener.role ≤ count_by (is_waiting_at listener.id) h.entries) ⊎ (length h.entries ≡ h.sizes.entries)
  pub which : IsOldestUnanswered h listener.id x ⊎ (IsLongestLeft h x × (count_by (is_waiting_at listener.id) h.entries < backlog_of listener.role))

-- What gives way to a segment, a SYN that opens at this listener, is an entry of the table that may.
pub record IsGivenFor (h : SocketsView) (source : Addr) (s : Segment) (x : Entry) : Type 0 where
  pub guards : h.manner.guards ≡ true
  pub opens : is_opening s.flags ≡ true
  pub there : find (has_id x.id) h.entries ≡ Some x
  pub may : may_give_way x ≡ true
  pub listener : Entry
  pub listens : find (is_listening_at s.destination) h.entries ≡ Some listener
  pub which : IsOpenedAnew h source s listener x ⊎ ((find (is_between (local_end h s) (peer_end source s)) h.entries ≡ None) × IsForPlace h listener x)

-- what gives way to a socket
pub record IsGivenForSocket (h : SocketsView) (x : Entry) : Type 0 where
  pub guards : h.manner.guards ≡ true
  pub full : length h.entries ≡ h.sizes.entries
  pub there : find (has_id x.id) h.entries ≡ Some x
  pub longest : IsLongestLeft h x
