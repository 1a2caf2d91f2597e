-- Where two open ends stand in one another's streams and windows.
use Rattle.std.proofs.Common.{◌≡◌, ℕ, ◌+◌, ◌≤◌, ◌^◌, true, false, if◌then◌else◌, ◌++◌, length, length-append, arith, refl, sym, ◌∙◌, ap, subst}
use Rattle.tcp_segment.specs.Wire.{wire, past}
use Rattle.tcp_halves.specs.Heard.{settled}
use Rattle.tcp_halves.specs.Stream.{outstanding}
use Rattle.tcp_halves.proofs.Choices.{neither}
use Rattle.tcp_state.specs.declared.state.State.{State}
use Rattle.tcp_state.specs.declared.state.State.TheVariants.{Listen, SynSent, SynReceived, Established, FinWait1, FinWait2, Closed}
use Rattle.tcp_state.specs.View.{View, IsSound, is_opening, is_syn_sent, is_closed, is_listening, is_read_closed}
use Rattle.tcp_state.specs.Arrival.{is_receiving}
use Rattle.tcp_state.proofs.Losses.{past_opening}
use Rattle.stream_law.specs.Channel.{Sending, Receiving, Waiting, Synchronised, number_of}
use Rattle.stream_law.specs.ChannelViews.{sender_of, receiver_of}
use Rattle.stream_law.specs.Pairing.{Present, Pairing, from_other}
use Rattle.stream_law.proofs.Invariant.{SenderFits, SendingFits, ReceiverFits, ReceivingFits}
use Rattle.stream_law.proofs.ChannelLaw.{holds}
use Rattle.stream_law.proofs.PairingInvariant.{Shown, shown-from_other, connected, open_tells}
use Rattle.stream_law.proofs.PairingLaw.{shown}
use Rattle.stream_law.proofs.Sizes.{most_held}
use Rattle.window_law.specs.Windows.{edge_from, Agree, IsOpen, Talks}
use Rattle.window_law.proofs.Meeting.{stands, met, between, flight}
use Rattle.window_law.proofs.Run.{meets, agrees}

-- The one end, x, sends to the other, y.
pub record Met (x y : View) : Type 0 where
  -- RCV.NXT there stands between SND.UNA and SND.NXT
  pub between : past y.receiving.rnext x.sending.una ≤ outstanding x.sending
  -- what went out lies within the window that is told there, but for a number that only a probe took; and so does the window that is known
  pub sent : settled x.sending ≤ edge_from x.sending y.receiving
  pub window : x.sending.window ≤ edge_from x.sending y.receiving
  -- once our FIN is taken all is
  pub ended : is_receiving y.state ≡ false → y.receiving.rnext ≡ x.sending.nxt

-- an open end doesn't receive where the peer's FIN has come
read_closed : (t : State) → is_listening t ≡ false → is_opening t ≡ false → is_receiving t ≡ false → is_read_closed t ≡ true
read_closed Closed l o r = refl
read_closed Listen l o r = cc
read_closed SynSent l o r = cc
read_closed SynReceived l o r = cc
read_closed Established l o r = cc
read_closed FinWait1 l o r = cc
read_closed FinWait2 l o r = cc
read_closed _ l o r = refl

-- all that was written was taken, and the FIN
all_taken : (limit : ℕ) → limit ≤ 2 ^ 30 → (p : Pairing) (x y : View) → Shown most_held limit p → p.own.connection ≡ Present x → p.other.connection ≡ Present y → is_closed x.state ≡ false → is_closed y.state ≡ false → is_syn_sent y.state ≡ false → is_read_closed y.state ≡ true
    → y.receiving.rnext ≡ x.sending.nxt
all_taken limit small p x y h own other lives living on closed =
    let c = h.into in
    let k = holds most_held limit (record { buffer = omega arith; recency = small }) c h.runs_into in
    let sends = (connected p.own.connection x h.into h.from own h.own.connection).sends lives in
    let there = connected p.other.connection y h.from h.into other h.other.connection in
    let s : SenderFits most_held k.isn c.written c.closed (sender_of x) k.u k.n = subst (λ (z : Sending). SendingFits most_held k.isn c.written c.closed c.frames z k.u k.n) sends.sending k.sending in
    let seen : c.end_seen ≡ true = there.end_seen (open_tells y living) ∙ closed in
    let P : Receiving → Type 0 = λ z. ReceivingFits k.isn c.written (c.read ++ c.readable) c.end_seen z k.r k.n in
    let r : ReceiverFits k.isn c.written (c.read ++ c.readable) c.end_seen (receiver_of y.receiving) k.r k.n = subst P (there.receiving living ∙ ap (λ b. if b then Waiting else Synchronised (receiver_of y.receiving)) on) k.receiving in
    let text = k.text in
    let all = text.seen seen in
    let written : length c.written ≡ length (c.read ++ c.readable) + length text.rest = ap length text.text ∙ length-append (c.read ++ c.readable) text.rest in
    let none : length text.rest ≡ 0 = ap length all.1 in
    let one : number_of c.end_seen ≡ 1 = ap number_of seen in
    let fin : number_of c.closed ≡ 1 = ap number_of all.0 in
    let order = k.order in
    let same : k.r ≡ k.n = omega (arith, order.sent, order.written_first, r.position, written, none, one, fin) in
    r.rnext ∙ ap (wire k.isn) same ∙ sym s.nxt

one_way : (limit : ℕ) → limit ≤ 2 ^ 30 → (p : Pairing) (x y : View) → Shown most_held limit p → Agree limit p x y → p.own.connection ≡ Present x → p.other.connection ≡ Present y → is_closed x.state ≡ false → is_closed y.state ≡ false → is_opening y.state ≡ false → IsSound y → Met x y
one_way limit small p x y h a own other lives living opened sound =
    let on = (past_opening y.state opened).0 in
    let at = met limit p (stands limit small p h) x y own other lives living on in
    let one = between limit p x y at in
    let all = flight limit p x y at in
    record {
      between = omega (arith, one, all, at.sent);
      sent = a.sent;
      window = a.window;
      ended = λ deaf. all_taken limit small p x y h own other lives living on (read_closed y.state sound.connection opened deaf);
    }

pub meet : (limit : ℕ) → limit ≤ 2 ^ 30 → (p : Pairing) (x y : View) → Talks limit p → p.own.connection ≡ Present x → p.other.connection ≡ Present y → IsOpen x → IsOpen y → IsSound x → IsSound y → Met x y × Met y x
meet limit small p x y talks own other here there sound sound_there =
    let a = agrees limit small p talks in
    let h = shown limit p (meets limit p talks) in
    let o = neither (is_opening x.state) (is_closed x.state) here in
    let b = neither (is_opening y.state) (is_closed y.state) there in (
      one_way limit small p x y h (a.0 x y own other here there) own other o.1 b.1 b.0 sound_there,
      one_way limit small (from_other p) y x (shown-from_other most_held limit p h) (a.1 y x other own there here) other own b.1 o.1 o.0 sound,
    )
