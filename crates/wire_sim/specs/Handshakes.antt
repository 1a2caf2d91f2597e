-- What two connections that open to each other, or that close, know of each other's numbers (RFC 9293 section 3.5, figure 6, and section 3.6, figure 12).
use Rattle.std.specs.Prelude.{◌≡◌, ◌≢◌, ◌⊎◌, ℕ, true, []}
use Rattle.tcp_segment.specs.Wire.{wire}
use Rattle.tcp_state.specs.declared.emission.Stretch.{Stretch}
use Rattle.tcp_state.specs.declared.state.State.{State}
use Rattle.tcp_state.specs.declared.state.State.TheVariants.{SynSent, SynReceived, Established, FinWait1, CloseWait, LastAck}
use Rattle.tcp_state.specs.View.{View}

-- its SYN or its FIN has gone out, and is not acknowledged
abbrev pub IsOut : View → Type 0
IsOut v = v.sending.nxt ≢ v.sending.una

-- in SYN-SENT, where our SYN has this number
pub record IsAsking (ours : ℕ) (v : View) : Type 0 where
  pub state : v.state ≡ SynSent
  pub syn : v.sending.una ≡ ours

-- in SYN-RECEIVED, where our SYN has this number and the peer's that one
pub record IsAnswering (ours theirs : ℕ) (v : View) : Type 0 where
  pub state : v.state ≡ SynReceived
  pub syn : v.sending.una ≡ ours
  pub expects : v.receiving.rnext ≡ wire theirs 1

-- Established behind two such SYNs: ours is acknowledged, and nothing went out behind it; nothing came behind the peer's
pub record IsOpen (ours theirs : ℕ) (v : View) : Type 0 where
  pub state : v.state ≡ Established
  pub acknowledged : v.sending.una ≡ wire ours 1
  pub sent : v.sending.nxt ≡ wire ours 1
  pub expects : v.receiving.rnext ≡ wire theirs 1

-- in this state nothing is held or outstanding: this number of ours goes out next, and that one of the peer's comes next
pub record IsAtRest (state : State) (ours theirs : ℕ) (v : View) : Type 0 where
  pub in_state : v.state ≡ state
  pub acknowledged : v.sending.una ≡ ours
  pub sent : v.sending.nxt ≡ ours
  pub held : v.sending.held ≡ []
  pub expects : v.receiving.rnext ≡ theirs

-- in this state our FIN has this number, and nothing is held before it; that number of the peer's comes next
pub record IsEnding (state : State) (ours theirs : ℕ) (v : View) : Type 0 where
  pub in_state : v.state ≡ state
  pub fin : v.sending.una ≡ ours
  pub held : v.sending.held ≡ []
  pub expects : v.receiving.rnext ≡ theirs

-- the FIN alone
abbrev pub fin_alone : Stretch
fin_alone = record { offset = 0; count = 0; fin = true }

-- closing our side leads from the one state to the other
abbrev pub Shuts : State → State → Type 0
Shuts before after = ((before ≡ Established) × (after ≡ FinWait1)) ⊎ ((before ≡ CloseWait) × (after ≡ LastAck))
