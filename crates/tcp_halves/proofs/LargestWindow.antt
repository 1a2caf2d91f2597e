-- The largest window that the peer told.
use Rattle.std.proofs.Common.{◌≡◌, ◌⊎◌, inl, inr, ℕ, ◌≤◌, max, true, arith}
use Rattle.std.proofs.lemmas.Bool.{cases_lt}
use Rattle.tcp_halves.specs.Halves.{Sending}
use Rattle.tcp_halves.specs.Windows.{updates_window, after_syn_heard, after_window_update}

larger : (m window : ℕ) → (window ≤ max m window) × (m ≤ max m window) × ((max m window ≡ window) ⊎ (max m window ≡ m))
larger m window = (omega arith, omega arith, elim (cases_lt m window) [ inl less ↦ inl (omega (arith, less)) | inr more ↦ inr (omega (arith, more)) ])

pub of_syn : (s : Sending) (number window smss : ℕ) → let t = after_syn_heard s number window smss in (window ≤ t.max_window) × (s.max_window ≤ t.max_window) × ((t.max_window ≡ window) ⊎ (t.max_window ≡ s.max_window))
of_syn s number window smss = larger s.max_window window

pub of_update : (s : Sending) (number ack window : ℕ) → updates_window s number ack ≡ true
    → let t = after_window_update s number ack window in (window ≤ t.max_window) × (s.max_window ≤ t.max_window) × ((t.max_window ≡ window) ⊎ (t.max_window ≡ s.max_window))
of_update s number ack window newer = rw newer (larger s.max_window window)
