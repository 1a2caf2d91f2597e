-- What holds of every channel that runs. Positions count the numbers of a stream without bound: the SYN stands at 0, the octets
-- written at 1 and on, the FIN behind them.
use Rattle.std.proofs.Common.{◌≡◌, ℕ, ◌+◌, ◌<◌, ◌≤◌, Bool, true, false, List, [], ◌∷◌, ◌++◌, length, Some}
use Rattle.std.specs.List.{slice_get}
use Rattle.tcp_segment.specs.Wire.{wire}
use Rattle.stream_law.specs.Channel.{Frame, Ack, Sender, Receiver, Sending, Unopened, Open, Stopped, Receiving, Waiting, Synchronised, Gone, Channel, IsAmong, number_of}

-- this octet stands at this position of what is written
abbrev pub StandsAt : List ℕ → ℕ → ℕ → Type 0
StandsAt written position octet = slice_get (0 ∷ written) position ≡ Some octet

-- the positions of SND.UNA, RCV.NXT and the number after the highest sent
pub record Order (cap : ℕ) (written : List ℕ) (closed : Bool) (u r n : ℕ) : Type 0 where
  pub received : u ≤ r
  pub sent : r ≤ n
  pub written_first : n ≤ 1 + length written + number_of closed
  pub within : length written ≤ u + cap

pub record Text (written read readable : List ℕ) (closed end_seen ended : Bool) : Type 0 where
  pub rest : List ℕ
  pub text : written ≡ (read ++ readable) ++ rest
  pub seen : end_seen ≡ true → (closed ≡ true) × (rest ≡ [])
  pub told : ended ≡ true → (end_seen ≡ true) × (readable ≡ [])

pub record SenderFits (cap isn : ℕ) (written : List ℕ) (closed : Bool) (s : Sender) (u n : ℕ) : Type 0 where
  pub una : s.una ≡ wire isn u
  pub nxt : s.nxt ≡ wire isn n
  pub taken : List ℕ
  pub text : written ≡ taken ++ s.held
  pub room : length s.held ≤ cap
  pub position : u ≡ number_of s.syn_acked + length taken + number_of s.fin_acked
  pub syn : s.syn_acked ≡ false → (taken ≡ []) × (n ≤ 1) × (s.fin_acked ≡ false)
  pub fin : s.fin_acked ≡ true → (closed ≡ true) × (s.held ≡ [])

abbrev pub SendingFits : ℕ → ℕ → List ℕ → Bool → List Frame → Sending → ℕ → ℕ → Type 0
SendingFits cap isn written closed frames Unopened u n = (n ≡ 0) × (written ≡ []) × (frames ≡ [])
SendingFits cap isn written closed frames (Open s) u n = SenderFits cap isn written closed s u n
SendingFits cap isn written closed frames Stopped u n = Unit {0}

pub record ReceiverFits (isn : ℕ) (written got : List ℕ) (end_seen : Bool) (y : Receiver) (r n : ℕ) : Type 0 where
  pub rnext : y.rnext ≡ wire isn r
  pub position : r ≡ 1 + length got + number_of end_seen
  pub kept : (i o : ℕ) → y.kept i ≡ Some o → StandsAt written (r + i) o × (r + i < n)

-- what y has in order, read or readable, is `got`
abbrev pub ReceivingFits : ℕ → List ℕ → List ℕ → Bool → Receiving → ℕ → ℕ → Type 0
ReceivingFits isn written got end_seen Waiting r n = (r ≡ 0) × (got ≡ []) × (end_seen ≡ false)
ReceivingFits isn written got end_seen (Synchronised y) r n = ReceiverFits isn written got end_seen y r n
ReceivingFits isn written got end_seen Gone r n = Unit {0}

pub record FrameFits (cap isn : ℕ) (written : List ℕ) (closed : Bool) (n : ℕ) (f : Frame) : Type 0 where
  pub at : ℕ
  pub number : f.number ≡ wire isn at
  pub text : (j o : ℕ) → slice_get f.octets j ≡ Some o → StandsAt written (at + j) o
  pub syn : f.syn ≡ true → (at ≡ 0) × (f.octets ≡ [])
  pub fin : f.fin ≡ true → (closed ≡ true) × (at + length f.octets ≡ 1 + length written)
  pub within : f.written_at ≤ at + cap
  pub sent : at + (length f.octets + number_of f.syn + number_of f.fin) ≤ n

pub record AckFits (cap isn r : ℕ) (a : Ack) : Type 0 where
  pub at : ℕ
  pub number : a.number ≡ wire isn at
  pub some : 1 ≤ at
  pub received : at ≤ r
  pub within : a.written_at ≤ at + cap

pub record Holds (cap : ℕ) (c : Channel) : Type 0 where
  pub isn : ℕ
  pub u : ℕ
  pub r : ℕ
  pub n : ℕ
  pub order : Order cap c.written c.closed u r n
  pub text : Text c.written c.read c.readable c.closed c.end_seen c.ended
  pub sending : SendingFits cap isn c.written c.closed c.frames c.sending u n
  pub receiving : ReceivingFits isn c.written (c.read ++ c.readable) c.end_seen c.receiving r n
  pub frames : (f : Frame) → IsAmong f c.frames → FrameFits cap isn c.written c.closed n f
  pub acks : (a : Ack) → IsAmong a c.acks → AckFits cap isn r a
