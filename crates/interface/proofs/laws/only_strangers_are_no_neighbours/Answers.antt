use Rattle.std.proofs.Common.{◌≡◌, ◌⊎◌, ◌||◌, ◌%◌, Bool, true, false, inl, inr, ⊎_elim, slice_index, refl, ap}
use Rattle.std.proofs.lemmas.Bool.{eqb-true, eq-eqb}
use Rattle.frames.specs.Meaning.{same_mac}
use Rattle.frames.proofs.Deciding.{mac-Decides}
use Rattle.interface.specs.Strangers.{is_no_host, is_of_group}
use Rattle.interface.proofs.laws.only_strangers_are_no_neighbours.Goals as goal

either : (a b : Bool) → (a || b) ≡ true → (a ≡ true) ⊎ (b ≡ true)
either true b e = inl refl
either false b e = inr e

first : (a b : Bool) → a ≡ true → (a || b) ≡ true
first a b e = ap (λ x. x || b) e

second : (a b : Bool) → b ≡ true → (a || b) ≡ true
second true b e = refl
second false b e = e

pub returns : goal.returns
returns c h packet = (
  λ e. ⊎_elim (λ mac. ⊎_elim (λ group. inl (eqb-true _ 1 group)) (λ own. inr (inl ((mac-Decides packet.sender_mac h.mac).0 own))) (either (is_of_group packet.sender_mac) (same_mac packet.sender_mac h.mac) mac))
      (λ no_host. inr (inr no_host))
      (either (is_of_group packet.sender_mac || same_mac packet.sender_mac h.mac) (is_no_host h packet.sender_addr) e),
  back,
)
  where
    back : (slice_index packet.sender_mac.0 0 % 2 ≡ 1) ⊎ (packet.sender_mac ≡ h.mac) ⊎ (is_no_host h packet.sender_addr ≡ true)
        → (is_of_group packet.sender_mac || same_mac packet.sender_mac h.mac || is_no_host h packet.sender_addr) ≡ true
    back (inl group) = first _ (is_no_host h packet.sender_addr) (first _ (same_mac packet.sender_mac h.mac) (eq-eqb _ 1 group))
    back (inr (inl own)) = first _ (is_no_host h packet.sender_addr) (second (is_of_group packet.sender_mac) _ ((mac-Decides packet.sender_mac h.mac).1 own))
    back (inr (inr no_host)) = second (is_of_group packet.sender_mac || same_mac packet.sender_mac h.mac) _ no_host
