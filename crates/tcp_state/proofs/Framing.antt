-- The octets of a segment that stand in a frame before its header is written.
use Rattle.std.proofs.Common.{◌≡◌, ℕ, ◌+◌, ◌-◌, ◌≤◌, List, ◌++◌, length, drop, arith, ◌∙◌, ap}
use Rattle.std.specs.List.{slice_range}
use Rattle.std.proofs.lemmas.Slice.{between-put_mid, drop-put_mid}
use borrow.Rule.Slice.PartMut.{put_mid}
use Rattle.ipv4.specs.declared.addr.Addr.{Addr}
use Rattle.tcp_segment.specs.declared.head.Head.{Head}
use Rattle.tcp_segment.specs.Sent.{sent_octets}

-- a header before octets that were put where they belong makes their segment, and what stands behind them stays
pub framed : (src dst : Addr) (head head' : Head) (start end width at : ℕ) (out octets octets' : List ℕ) → at ≡ start → end ≡ start + length octets → width ≡ end - start
    → end ≤ length out → head ≡ head' → octets ≡ octets'
    → sent_octets src dst head (slice_range (put_mid start width out octets) at end) ++ drop end (put_mid start width out octets) ≡ sent_octets src dst head' octets' ++ drop end out
framed src dst head head' start end width at out octets octets' same_place is_end is_width room same_head same_octets =
    let within : start ≤ length out = omega (arith, is_end, room) in
    let read : slice_range (put_mid start width out octets) at end ≡ octets =
    ap (λ a. slice_range (put_mid start width out octets) a end) same_place ∙ between-put_mid start width out octets end within (omega (arith, is_end)) in
    let rest : drop end (put_mid start width out octets) ≡ drop end out = drop-put_mid start width out octets end (omega (arith, is_end, is_width)) within (omega (arith, is_end, is_width)) in
    ap (λ l. sent_octets src dst head l ++ drop end (put_mid start width out octets)) (read ∙ same_octets)
    ∙ (ap (λ h. sent_octets src dst h octets' ++ drop end (put_mid start width out octets)) same_head ∙ ap (λ l. sent_octets src dst head' octets' ++ l) rest)
