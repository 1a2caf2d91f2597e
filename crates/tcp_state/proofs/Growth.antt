-- What one event makes of a congestion window: it stays sound, and grows by a segment at most, or by two.
use Rattle.std.proofs.Common.{◌≡◌, ℕ, ◌+◌, ◌*◌, ◌/◌, ◌^◌, ◌<◌, ◌≤◌, min, max, Bool, true, false, arith}
use Rattle.std.proofs.Math.Nat.{div-le_of_le-mul, mul-le-mul_right}
use Rattle.std.proofs.lemmas.Bool.Decides.{nat_tests}
use Rattle.congestion.specs.declared.control.Control.{Control}
use Rattle.congestion.specs.Control.{initial_segments}
use Rattle.congestion.specs.Window.{Window, IsSound, allowed, initial_window, is_recovering, most_counted, growth, most_growth, after_new_ack, after_partial_ack, after_expiry, after_duplicate, after_loss, after_undo}
use Rattle.tcp_state.specs.Arrival.{given_back}

-- so many octets as a segment may have
pub record IsSize (smss : ℕ) : Type 0 where
  pub least : 64 ≤ smss
  pub most : smss ≤ 1460

-- a window that events lead to
abbrev pub IsWindow : Window → Type 0
IsWindow w = IsSound w

pub holds_segment : (w : Window) → IsWindow w → w.smss ≤ w.cwnd
holds_segment w sound = sound.cwnd_least

-- a segment at least, and ten at most
segments_few : (control : Control) (smss : ℕ) (resent : Bool) → (1 ≤ initial_segments control smss resent) × (initial_segments control smss resent ≤ 10)
segments_few control smss resent = (grind (arith, nat_tests), grind (arith, nat_tests))

product_fits : (segments smss : ℕ) → 1 ≤ segments → segments ≤ 10 → (smss ≤ segments * smss) × (segments * smss ≤ 10 * smss)
product_fits segments smss least most = (let one : 1 * smss ≤ segments * smss = mul-le-mul_right smss least in omega arith, mul-le-mul_right smss most)

pub first_sound : (control : Control) (smss : ℕ) (resent : Bool) → IsSize smss → IsSound (initial_window control smss resent)
first_sound control smss resent size =
    let few = segments_few control smss resent in
    let fits = product_fits (initial_segments control smss resent) smss few.0 few.1 in
    record {
      smss_least = size.least;
      smss_most = size.most;
      cwnd_least = fits.0;
      cwnd_most = omega (arith, fits.1, size.most);
      ssthresh_least = omega (arith, size.most);
      ssthresh_most = omega arith;
      duplicates = omega arith;
      prior_cwnd = omega arith;
      prior_ssthresh = omega arith;
    }

pub new_ack_sound : (w : Window) (octets flight : ℕ) → IsSound w → IsSound (after_new_ack w octets flight)
new_ack_sound w octets flight sound = record {
  smss_least = sound.smss_least;
  smss_most = sound.smss_most;
  cwnd_least = grind (arith, nat_tests);
  cwnd_most = omega arith;
  ssthresh_least = sound.ssthresh_least;
  ssthresh_most = sound.ssthresh_most;
  duplicates = omega arith;
  prior_cwnd = sound.prior_cwnd;
  prior_ssthresh = sound.prior_ssthresh;
}

pub partial_ack_sound : (w : Window) (octets : ℕ) → IsSound w → IsSound (after_partial_ack w octets)
partial_ack_sound w octets sound = record {
  smss_least = sound.smss_least;
  smss_most = sound.smss_most;
  cwnd_least = omega arith;
  cwnd_most = grind (arith, nat_tests);
  ssthresh_least = sound.ssthresh_least;
  ssthresh_most = sound.ssthresh_most;
  duplicates = sound.duplicates;
  prior_cwnd = sound.prior_cwnd;
  prior_ssthresh = sound.prior_ssthresh;
}

-- no more octets are in flight than there are numbers
pub expiry_sound : (w : Window) (flight : ℕ) → flight < 2 ^ 32 → IsSound w → IsSound (after_expiry w flight)
expiry_sound w flight small sound = record {
  smss_least = sound.smss_least;
  smss_most = sound.smss_most;
  cwnd_least = omega arith;
  cwnd_most = omega (arith, sound.smss_most);
  ssthresh_least = grind (arith, nat_tests);
  ssthresh_most = grind (arith, nat_tests);
  duplicates = omega arith;
  prior_cwnd = omega arith;
  prior_ssthresh = omega arith;
}

pub duplicate_sound : (w : Window) (flight : ℕ) → flight < 2 ^ 32 → IsSound w → IsSound (after_duplicate w flight)
duplicate_sound w flight small sound = record {
  smss_least = grind (arith, nat_tests);
  smss_most = grind (arith, nat_tests);
  cwnd_least = grind (arith, nat_tests);
  cwnd_most = grind (arith, nat_tests);
  ssthresh_least = grind (arith, nat_tests);
  ssthresh_most = grind (arith, nat_tests);
  duplicates = grind (arith, nat_tests);
  prior_cwnd = grind (arith, nat_tests);
  prior_ssthresh = grind (arith, nat_tests);
}

pub loss_sound : (w : Window) (flight : ℕ) → flight < 2 ^ 32 → IsSound w → IsSound (after_loss w flight)
loss_sound w flight small sound = record {
  smss_least = sound.smss_least;
  smss_most = sound.smss_most;
  cwnd_least = grind (arith, nat_tests);
  cwnd_most = grind (arith, nat_tests);
  ssthresh_least = grind (arith, nat_tests);
  ssthresh_most = grind (arith, nat_tests);
  duplicates = omega arith;
  prior_cwnd = sound.cwnd_most;
  prior_ssthresh = sound.ssthresh_most;
}

pub undo_sound : (w : Window) → IsSound w → IsSound (after_undo w)
undo_sound w sound = record {
  smss_least = sound.smss_least;
  smss_most = sound.smss_most;
  cwnd_least = omega (arith, sound.cwnd_least);
  cwnd_most = omega (arith, sound.cwnd_most, sound.prior_cwnd);
  ssthresh_least = omega (arith, sound.ssthresh_least);
  ssthresh_most = omega (arith, sound.ssthresh_most, sound.prior_ssthresh);
  duplicates = sound.duplicates;
  prior_cwnd = sound.prior_cwnd;
  prior_ssthresh = sound.prior_ssthresh;
}

pub given_sound : (w : Window) (back : Bool) → IsSound w → IsSound (given_back back w)
given_sound w true sound = undo_sound w sound
given_sound w false sound = sound

-- it counts in segments of the size that it had
pub duplicate_segment : (w : Window) (flight : ℕ) → (let x = after_duplicate w flight in x.smss) ≡ w.smss
duplicate_segment w flight = grind (arith, nat_tests)

-- what is divided by the window is no more than is counted
quotient_small : (w : Window) (counted : ℕ) → IsSound w → w.smss * counted / w.cwnd ≤ counted
quotient_small w counted sound = div-le_of_le-mul w.cwnd (mul-le-mul_right counted sound.cwnd_least)

growth_small : (w : Window) (octets : ℕ) → IsSound w → growth w octets ≤ most_growth w
growth_small w octets sound =
    let one = quotient_small w w.smss sound in
    let counted = quotient_small w (min octets (most_counted w)) sound in
    let few : most_counted w ≤ 2 * w.smss = grind (arith, nat_tests) in
    let least = sound.smss_least in
    grind (arith, nat_tests)

pub new_ack_adds : (w : Window) (octets flight : ℕ) → IsSound w → is_recovering w ≡ false → (let x = after_new_ack w octets flight in x.cwnd) ≤ w.cwnd + most_growth w
new_ack_adds w octets flight sound runs =
    let small = growth_small w octets sound in
    let most = sound.cwnd_most in
    grind (arith, nat_tests)

-- a duplicate ACK that begins no recovery adds nothing
pub duplicate_adds : (w : Window) (flight : ℕ) → IsSound w → is_recovering w ≡ false → (let x = after_duplicate w flight in is_recovering x) ≡ false → (let x = after_duplicate w flight in x.cwnd) ≤ w.cwnd + most_growth w
duplicate_adds w flight sound runs ends = grind (arith, nat_tests)

pub duplicate_priors : (w : Window) (flight : ℕ) → (let x = after_duplicate w flight in is_recovering x) ≡ false → (let x = after_duplicate w flight in x.prior_cwnd) ≤ max w.cwnd w.prior_cwnd
duplicate_priors w flight ends = grind (arith, nat_tests)

-- no window is less than a segment, nor what may be in flight less than the window
pub allows_some : (w : Window) → IsSound w → 0 < allowed w
allows_some w sound =
    let least = sound.smss_least in
    let holds = sound.cwnd_least in
    grind (arith, nat_tests)
