-- What is no duplicate ACK.
use Rattle.std.proofs.Common.{◌≡◌, ◌==◌, ◌&&◌, not, nat_lt, false, length, ◌∙◌, ap, Bool, true, refl}
use Rattle.tcp_segment.specs.Segment.{Segment}
use Rattle.tcp_halves.specs.Stream.{stands_before}
use Rattle.tcp_halves.specs.Windows.{window_in}
use Rattle.tcp_state.specs.View.{View, is_opening}
use Rattle.tcp_state.specs.Arrival.{is_read, octets_outstanding, is_duplicate}

none : (a b : Bool) → (a && false && b) ≡ false
none true b = refl
none false b = refl

-- what brings octets
pub brings_octets : (v : View) (s : Segment) → (length s.octets == 0) ≡ false → is_duplicate v s ≡ false
brings_octets v s some =
    let first = not (is_opening v.state) && is_read v s && nat_lt 0 (octets_outstanding v) in
    let fin = not s.flags.fin in
    let here = not (stands_before v.receiving s.number) in
    let same = s.acknowledgement == v.sending.una in
    let window = window_in v.sending s.window == v.sending.window in
    ap (λ e. first && e && fin && same && window && here) some ∙ ap (λ b. b && same && window && here) (none first fin)

-- what acknowledges another number
pub moves_on : (v : View) (s : Segment) → (s.acknowledgement == v.sending.una) ≡ false → is_duplicate v s ≡ false
moves_on v s other =
    let first = not (is_opening v.state) && is_read v s && nat_lt 0 (octets_outstanding v) && (length s.octets == 0) && not s.flags.fin in
    let window = window_in v.sending s.window == v.sending.window in
    let here = not (stands_before v.receiving s.number) in
    ap (λ e. first && e && window && here) other ∙ ap (λ b. b && here) (none first window)
