-- The first word of what a host does.
use Rattle.std.specs.Prelude.{ℕ, List, Option, Some, None, codes, if◌then◌else◌}
use Rattle.std.specs.Str.{bytes_eq}
use Rattle.script.specs.declared.action.Keyword.{Keyword}
use Rattle.script.specs.declared.action.Keyword.TheVariants.{Socket, Bind, Listen, Accept, Connect, Send, Fill, Recv, Count, SendTo, FillTo, RecvFrom, CountFrom, Shutdown, NoDelay, Close, Abort, State, Ready, Info, Tick, Emit, Deliver}

-- the keyword that a word is
abbrev pub keyword_of : List ℕ → Option Keyword
keyword_of word =
    if bytes_eq word (codes "socket") then Some Socket
    else if bytes_eq word (codes "bind") then Some Bind
    else if bytes_eq word (codes "listen") then Some Listen
    else if bytes_eq word (codes "accept") then Some Accept
    else if bytes_eq word (codes "connect") then Some Connect
    else if bytes_eq word (codes "send") then Some Send
    else if bytes_eq word (codes "fill") then Some Fill
    else if bytes_eq word (codes "recv") then Some Recv
    else if bytes_eq word (codes "count") then Some Count
    else if bytes_eq word (codes "sendto") then Some SendTo
    else if bytes_eq word (codes "fillto") then Some FillTo
    else if bytes_eq word (codes "recvfrom") then Some RecvFrom
    else if bytes_eq word (codes "countfrom") then Some CountFrom
    else if bytes_eq word (codes "shutdown") then Some Shutdown
    else if bytes_eq word (codes "nodelay") then Some NoDelay
    else if bytes_eq word (codes "close") then Some Close
    else if bytes_eq word (codes "abort") then Some Abort
    else if bytes_eq word (codes "state") then Some State
    else if bytes_eq word (codes "ready") then Some Ready
    else if bytes_eq word (codes "info") then Some Info
    else if bytes_eq word (codes "tick") then Some Tick
    else if bytes_eq word (codes "emit") then Some Emit
    else if bytes_eq word (codes "deliver") then Some Deliver
    else None
