-- What the flags of a segment leave of what draws an acknowledgement, and what answers it.
use Rattle.std.proofs.Common.{◌≡◌, ◌==◌, ◌||◌, ◌&&◌, not, nat_lt, Bool, true, false, length, refl, ap}
use Rattle.tcp_segment.specs.Segment.{Segment}
use Rattle.tcp_state.specs.View.{View, is_syn_received}
use Rattle.tcp_state.specs.Arrival.{owing_ack, is_acceptable_to}
use Rattle.tcp_state.specs.Duties.{Places, acknowledges, is_in_reach, may_bring, brings_text, is_unacceptable, is_challenged, is_another_syn, is_astray, hurries}

-- all that draws one, by its tests
abbrev pub drawn : (rst accepted syn ack behind below bars opening beyond within right may last : Bool) → Bool
drawn rst accepted syn ack behind below bars opening beyond within right may last =
    (not rst && not accepted) || (rst && behind && below) || (not rst && accepted && syn && not bars)
    || (not rst && accepted && not syn && ack && not opening && beyond)
    || (not rst && accepted && not syn && ack && within && right && may && last)

pub by_rst : (rst accepted syn ack behind below bars opening beyond within right may last : Bool) → rst ≡ true → drawn rst accepted syn ack behind below bars opening beyond within right may last ≡ (behind && below)
by_rst true accepted syn ack true true bars opening beyond within right may last e = refl
by_rst true accepted syn ack true false bars opening beyond within right may last e = refl
by_rst true accepted syn ack false below bars opening beyond within right may last e = refl
by_rst false accepted syn ack behind below bars opening beyond within right may last e = cc

pub refused : (rst accepted syn ack behind below bars opening beyond within right may last : Bool) → rst ≡ false → accepted ≡ false → drawn rst accepted syn ack behind below bars opening beyond within right may last ≡ true
refused false false syn ack behind below bars opening beyond within right may last e f = refl
refused true accepted syn ack behind below bars opening beyond within right may last e f = cc
refused false true syn ack behind below bars opening beyond within right may last e f = cc

pub by_syn : (rst accepted syn ack behind below bars opening beyond within right may last : Bool) → rst ≡ false → accepted ≡ true → syn ≡ true
    → drawn rst accepted syn ack behind below bars opening beyond within right may last ≡ not bars
by_syn false true true ack behind below true opening beyond within right may last e f g = refl
by_syn false true true ack behind below false opening beyond within right may last e f g = refl
by_syn true accepted syn ack behind below bars opening beyond within right may last e f g = cc
by_syn false false syn ack behind below bars opening beyond within right may last e f g = cc
by_syn false true false ack behind below bars opening beyond within right may last e f g = cc

pub no_ack_drawn : (rst accepted syn ack behind below bars opening beyond within right may last : Bool) → rst ≡ false → accepted ≡ true → syn ≡ false → ack ≡ false
    → drawn rst accepted syn ack behind below bars opening beyond within right may last ≡ false
no_ack_drawn false true false false behind below bars opening beyond within right may last e f g h = refl
no_ack_drawn true accepted syn ack behind below bars opening beyond within right may last e f g h = cc
no_ack_drawn false false syn ack behind below bars opening beyond within right may last e f g h = cc
no_ack_drawn false true true ack behind below bars opening beyond within right may last e f g h = cc
no_ack_drawn false true false true behind below bars opening beyond within right may last e f g h = cc

pub by_ack_drawn : (rst accepted syn ack behind below bars opening beyond within right may last : Bool) → rst ≡ false → accepted ≡ true → syn ≡ false → ack ≡ true
    → drawn rst accepted syn ack behind below bars opening beyond within right may last ≡ ((not opening && beyond) || (within && right && may && last))
by_ack_drawn false true false true behind below bars opening beyond within right may last e f g h = refl
by_ack_drawn true accepted syn ack behind below bars opening beyond within right may last e f g h = cc
by_ack_drawn false false syn ack behind below bars opening beyond within right may last e f g h = cc
by_ack_drawn false true true ack behind below bars opening beyond within right may last e f g h = cc
by_ack_drawn false true false false behind below bars opening beyond within right may last e f g h = cc

-- what brings octets, by its tests
abbrev pub brought : (rst accepted syn ack within right may some : Bool) → Bool
brought rst accepted syn ack within right may some = not rst && accepted && not syn && ack && within && right && may && some

pub unheard : (rst accepted syn ack within right may some : Bool) → (not rst && accepted && not syn && ack) ≡ false → brought rst accepted syn ack within right may some ≡ false
unheard rst accepted syn ack within right may some e = ap (λ b. b && within && right && may && some) e

pub by_ack_brought : (rst accepted syn ack within right may some : Bool) → rst ≡ false → accepted ≡ true → syn ≡ false → ack ≡ true → brought rst accepted syn ack within right may some ≡ (within && right && may && some)
by_ack_brought false true false true within right may some e f g h = refl
by_ack_brought true accepted syn ack within right may some e f g h = cc
by_ack_brought false false syn ack within right may some e f g h = cc
by_ack_brought false true true ack within right may some e f g h = cc
by_ack_brought false true false false within right may some e f g h = cc

-- what has RST, is not acceptable, has SYN or lacks ACK acknowledges nothing
pub rst_says_none : (rst accepted syn ack : Bool) → rst ≡ true → (not rst && accepted && not syn && ack) ≡ false
rst_says_none true accepted syn ack e = refl
rst_says_none false accepted syn ack e = cc

pub refused_says_none : (rst accepted syn ack : Bool) → accepted ≡ false → (not rst && accepted && not syn && ack) ≡ false
refused_says_none true accepted syn ack e = refl
refused_says_none false false syn ack e = refl
refused_says_none false true syn ack e = cc

pub syn_says_none : (rst accepted syn ack : Bool) → syn ≡ true → (not rst && accepted && not syn && ack) ≡ false
syn_says_none true accepted syn ack e = refl
syn_says_none false false syn ack e = refl
syn_says_none false true true ack e = refl
syn_says_none false true false ack e = cc

pub no_ack_says_none : (rst accepted syn ack : Bool) → ack ≡ false → (not rst && accepted && not syn && ack) ≡ false
no_ack_says_none true accepted syn ack e = refl
no_ack_says_none false false syn ack e = refl
no_ack_says_none false true true ack e = refl
no_ack_says_none false true false false e = refl
no_ack_says_none false true false true e = cc

-- The answer.

-- what draws one by the steps of its arrival
abbrev pub drawn_at : Places → View → Segment → Bool
drawn_at at v s = is_unacceptable v s || is_challenged at s || is_another_syn v s || is_astray at v s || (brings_text at v s && (s.flags.fin || hurries at v s))

-- what is owed and what is delayed after a segment
pub record Answered (at : Places) (v : View) (s : Segment) (w : View) : Type 0 where
  pub owes : w.owes_ack ≡ (v.owes_ack || drawn_at at v s)
  pub delays : w.delays_ack ≡ (v.delays_ack || (brings_text at v s && not (length s.octets == 0)))

pub as_it_was : (b c : Bool) → c ≡ false → b ≡ (b || c)
as_it_was true c e = refl
as_it_was false true e = cc
as_it_was false false e = refl

pub with_it : (b c : Bool) → c ≡ true → true ≡ (b || c)
with_it true c e = refl
with_it false true e = refl
with_it false false e = cc

-- it draws one or none, and has no octets that are looked at
pub none_drawn : (at : Places) (v : View) (s : Segment) → drawn_at at v s ≡ false → (brings_text at v s && not (length s.octets == 0)) ≡ false → Answered at v s v
none_drawn at v s none quiet = record { owes = as_it_was v.owes_ack (drawn_at at v s) none; delays = as_it_was v.delays_ack _ quiet }

pub one_drawn : (at : Places) (v : View) (s : Segment) → drawn_at at v s ≡ true → (brings_text at v s && not (length s.octets == 0)) ≡ false → Answered at v s (owing_ack v)
one_drawn at v s one quiet = record { owes = with_it v.owes_ack (drawn_at at v s) one; delays = as_it_was v.delays_ack _ quiet }

-- no text is brought where nothing is acknowledged
pub quiet : (at : Places) (v : View) (s : Segment) → acknowledges v s ≡ false → (brings_text at v s && not (length s.octets == 0)) ≡ false
quiet at v s none =
    unheard s.flags.rst (is_acceptable_to v s) s.flags.syn s.flags.ack (is_in_reach at v) (not (is_syn_received v.state) || nat_lt at.una at.ack) (may_bring v.state) (not (length s.octets == 0)) none
