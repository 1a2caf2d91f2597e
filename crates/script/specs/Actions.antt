-- What a script's line has one host do, by the words that follow the host's name.
use Rattle.std.specs.Prelude.{ℕ, ◌-◌, ◌^◌, Bool, true, false, List, [], ◌∷◌, Option, Some, None, codes, option_map, option_and_then, if◌then◌else◌}
use Rattle.std.specs.Str.{bytes_eq}
use Rattle.tcp_segment.specs.declared.seq.Seq.{Seq}
use Rattle.clock.specs.declared.moment.Moment.{Moment}
use Rattle.sockets.specs.declared.entry.SocketId.{SocketId}
use Rattle.sockets.specs.declared.entry.Kind.{Kind}
use Rattle.sockets.specs.declared.entry.Kind.TheVariants.{Tcp, Udp}
use Rattle.script.specs.Words.{number_of, text_of}
use Rattle.script.specs.Keywords.{keyword_of}
use Rattle.script.specs.declared.action.Keyword.{Keyword}
use Rattle.script.specs.declared.action.Keyword.TheVariants as keyword
use Rattle.script.specs.declared.action.Action.{Action}
use Rattle.script.specs.declared.action.Action.TheVariants.{Socket, Bind, Listen, Accept, Connect, Send, Fill, Recv, Count, SendTo, FillTo, RecvFrom, CountFrom, Shutdown, NoDelay, Close, Abort, State, Ready, Info, Tick, Emit, Deliver}

-- the kind of a socket
abbrev pub kind_of : List ℕ → Option Kind
kind_of word =
    if bytes_eq word (codes "tcp") then Some Tcp
    else if bytes_eq word (codes "udp") then Some Udp
    else None

-- whether it is on
abbrev pub switch_of : List ℕ → Option Bool
switch_of word =
    if bytes_eq word (codes "on") then Some true
    else if bytes_eq word (codes "off") then Some false
    else None

-- a number of 64 bits
abbrev pub wide : List ℕ → Option ℕ
wide word = number_of (2 ^ 64 - 1) word

-- a count of octets
abbrev pub octets_of : List ℕ → Option ℕ
octets_of word = number_of 2000000 word

-- a port
abbrev pub port_of : List ℕ → Option ℕ
port_of word = number_of (2 ^ 16 - 1) word

-- the id of a socket
abbrev pub id_of : List ℕ → Option SocketId
id_of word = option_map (λ n. record { 0 = n }) (wide word)

-- a moment in milliseconds
abbrev pub moment_of : List ℕ → Option Moment
moment_of word = option_map (λ n. record { 0 = n }) (wide word)

-- an initial sequence number
abbrev pub isn_of : List ℕ → Option Seq
isn_of word = option_map (λ n. record { 0 = n }) (number_of (2 ^ 32 - 1) word)

-- what is made of two parts, if both are there
abbrev pub together : {A B C : Type 0} → (A → B → C) → Option A → Option B → Option C
together make a b = option_and_then (λ x. option_map (λ y. make x y) b) a

-- what is made of a socket's id, a port and one part more, if all are there
abbrev pub for_port : {A B : Type 0} → (SocketId → ℕ → A → B) → List ℕ → List ℕ → Option A → Option B
for_port make id port a = option_and_then (λ s. together (λ p x. make s p x) (port_of port) a) (id_of id)

-- what a keyword says with its arguments
abbrev pub said_by : Keyword → List (List ℕ) → Option Action
said_by keyword.Socket (kind ∷ []) = option_map Socket (kind_of kind)
said_by keyword.Bind (id ∷ port ∷ []) = together Bind (id_of id) (port_of port)
said_by keyword.Listen (id ∷ backlog ∷ []) = together Listen (id_of id) (wide backlog)
said_by keyword.Accept (id ∷ []) = option_map Accept (id_of id)
said_by keyword.Connect (id ∷ port ∷ isn ∷ []) = for_port Connect id port (isn_of isn)
said_by keyword.Send (id ∷ text ∷ []) = together Send (id_of id) (text_of text)
said_by keyword.Fill (id ∷ count ∷ []) = together Fill (id_of id) (octets_of count)
said_by keyword.Recv (id ∷ most ∷ []) = together Recv (id_of id) (octets_of most)
said_by keyword.Count (id ∷ most ∷ []) = together Count (id_of id) (octets_of most)
said_by keyword.SendTo (id ∷ port ∷ text ∷ []) = for_port SendTo id port (text_of text)
said_by keyword.FillTo (id ∷ port ∷ count ∷ []) = for_port FillTo id port (octets_of count)
said_by keyword.RecvFrom (id ∷ most ∷ []) = together RecvFrom (id_of id) (octets_of most)
said_by keyword.CountFrom (id ∷ most ∷ []) = together CountFrom (id_of id) (octets_of most)
said_by keyword.Shutdown (id ∷ []) = option_map Shutdown (id_of id)
said_by keyword.NoDelay (id ∷ on ∷ []) = together NoDelay (id_of id) (switch_of on)
said_by keyword.Close (id ∷ []) = option_map Close (id_of id)
said_by keyword.Abort (id ∷ []) = option_map Abort (id_of id)
said_by keyword.State (id ∷ []) = option_map State (id_of id)
said_by keyword.Ready (id ∷ []) = option_map Ready (id_of id)
said_by keyword.Info (id ∷ []) = option_map Info (id_of id)
said_by keyword.Tick (moment ∷ []) = option_map Tick (moment_of moment)
said_by keyword.Emit [] = Some Emit
said_by keyword.Deliver (index ∷ isn ∷ []) = together Deliver (wide index) (isn_of isn)
said_by keyword arguments = None

-- what the words after a host's name say
abbrev pub action_of : List (List ℕ) → Option Action
action_of [] = None
action_of (first ∷ arguments) = option_and_then (λ keyword. said_by keyword arguments) (keyword_of first)
