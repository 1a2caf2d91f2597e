-- How octets and answers are printed.
use Rattle.std.specs.Prelude.{◌++◌, codes, slice_index, length, ℕ, ◌+◌, ◌/◌, ◌%◌, List, [], ◌∷◌, Bool, true, false, ◌&&◌, ◌==◌, nat_lt, not, if◌then◌else◌}
use Rattle.std.specs.List.{flat_map}
use Rattle.std.specs.Fmt.{decimal}
use Rattle.wire_sim.specs.declared.event.Answer.{Answer}
use Rattle.wire_sim.specs.declared.event.Answer.TheVariants.{Socket, Done, Accepted, Started, Sent, Octets, Datagram, EndOfStream, State, Ready, Info, Frame, NoFrame, Taken, Dropped, Refused}
use Rattle.wire_sim.specs.declared.event.Answer.TheVariants as answered
use Rattle.ipv4.specs.declared.addr.Endpoint.{Endpoint}
use Rattle.sockets.specs.declared.ready.Ready.{Ready as Readiness}
use Rattle.sockets.specs.Names.{refusal_text, socket_state_text}
use Rattle.frames.specs.Drops.{number_of}
use Rattle.script.specs.declared.action.Action.{Action}
use Rattle.script.specs.declared.action.Action.TheVariants.{Count, CountFrom}
use Rattle.script.specs.Info.{info_text}
use Rattle.script.specs.declared.answer.Style.{Style}
use Rattle.script.specs.declared.answer.Style.TheVariants as style
use Rattle.std.specs.Char.{is_ascii_graphic}

-- a lower case hexadecimal digit
abbrev pub hex_digit_of : ℕ → ℕ
hex_digit_of value = if nat_lt value 10 then 48 + value else 87 + value

-- an octet of text as it is, but a backslash and every other octet as `\x` and two hexadecimal digits
abbrev pub escape_of : ℕ → List ℕ
escape_of octet =
    if is_ascii_graphic octet && not (octet == 92) then octet ∷ []
    else 92 ∷ 120 ∷ hex_digit_of (octet / 16) ∷ hex_digit_of (octet % 16) ∷ []

-- octets as a printed line shows them
abbrev pub escaped_of : List ℕ → List ℕ
escaped_of octets = flat_map escape_of octets

-- of the octets that `count` and `countfrom` read the number is shown
abbrev pub style_of : Action → Style
style_of (Count id most) = style.Count
style_of (CountFrom id most) = style.Count
style_of action = style.Text

-- an end, as a peer: the four numbers of its address with points between them, and its port
abbrev pub peer_text : Endpoint → List ℕ
peer_text peer =
    decimal (slice_index peer.addr.0 0) ++ (codes "." ++ (decimal (slice_index peer.addr.0 1) ++ (codes "."
    ++ (decimal (slice_index peer.addr.0 2) ++ (codes "." ++ (decimal (slice_index peer.addr.0 3) ++ (codes " " ++ decimal peer.port)))))))

-- the octets that were read: as text, or their number
abbrev pub octets_text : Style → List ℕ → List ℕ
octets_text style.Text octets = codes "octets " ++ escaped_of octets
octets_text style.Count octets = codes "octets " ++ decimal (length octets)

-- the words that hold
abbrev pub that_hold : List (Bool × List ℕ) → List (List ℕ)
that_hold [] = []
that_hold ((true, word) ∷ rest) = word ∷ that_hold rest
that_hold ((false, word) ∷ rest) = that_hold rest

-- words with a blank between them; where there is none, `none`
abbrev pub words_text : List (List ℕ) → List ℕ
words_text [] = codes "none"
words_text (first ∷ rest) = first ++ flat_map (λ word. codes " " ++ word) rest

-- what a socket is ready for
abbrev pub ready_text : Readiness → List ℕ
ready_text r = words_text (that_hold (
    (r.accept, codes "ACCEPT") ∷ (r.read, codes "READ") ∷ (r.write, codes "WRITE") ∷ (r.ended, codes "ENDED") ∷ (r.failed, codes "FAILED") ∷ (r.opening, codes "OPENING") ∷ []))

-- a word where it holds, behind a blank where another stands before it
abbrev pub word_shown : Bool → Bool → List ℕ → List ℕ
word_shown holds others word = if holds then (if others then codes " " ++ word else word) else []

-- what is printed of an answer
abbrev pub shown_of : Style → Answer → List ℕ
shown_of how (Socket id) = codes "id " ++ decimal id.0
shown_of how Done = codes "ok"
shown_of how (Accepted id peer) = codes "id " ++ (decimal id.0 ++ (codes " " ++ peer_text peer))
shown_of how Started = codes "started"
shown_of how (Sent count) = codes "sent " ++ decimal count
shown_of how (Octets octets) = octets_text how octets.items
shown_of how (Datagram octets from) = octets_text how octets.items ++ (codes " from " ++ peer_text from)
shown_of how EndOfStream = codes "end"
shown_of how (State told) = socket_state_text told
shown_of how (Ready told) = ready_text told
shown_of how (Info told) = info_text told
shown_of how (answered.Endpoint end) = peer_text end
shown_of how (Frame index len) = codes "frame " ++ decimal index ++ codes " " ++ decimal len
shown_of how NoFrame = codes "none"
shown_of how Taken = codes "taken"
shown_of how (Dropped cause) = codes "drop F" ++ decimal (number_of cause)
shown_of how (Refused why) = refusal_text why
