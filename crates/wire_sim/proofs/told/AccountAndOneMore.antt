-- What a happening more tells of each socket.
use Rattle.std.proofs.Common.{◌≡◌, ℕ, ◌==◌, ◌||◌, cond, Bool, true, false, List, [], ◌∷◌, ◌++◌, take, refl, sym, ◌∙◌, ap, subst, append-nil}
use Rattle.std.specs.Global.{Vec}
use Rattle.sockets.specs.declared.entry.SocketId.{SocketId}
use Rattle.sockets.specs.declared.role.Leave.{Leave}
use Rattle.sockets.specs.declared.role.Leave.TheVariants.{Close, Abort}
use Rattle.sides.specs.declared.side.Side.{Side}
use Rattle.wire_sim.specs.declared.event.Call.{Call}
use Rattle.wire_sim.specs.declared.event.Call.TheVariants as call
use Rattle.wire_sim.specs.declared.event.Answer.{Answer}
use Rattle.wire_sim.specs.declared.event.Answer.TheVariants as answer
use Rattle.wire_sim.specs.declared.event.Happening.{Happening}
use Rattle.sides.specs.Sides.{other_side}
use Rattle.wire_sim.specs.Trace.{sent_on, closed_on, read_on, ended_on}
use Rattle.wire_sim.proofs.tables.EntryChanges.{SameTold, SameBut}
use Rattle.wire_sim.proofs.pairing.WorldAsPairings.{told}
use Rattle.wire_sim.proofs.tables.TableById.{Account, eqb-same}
use Rattle.wire_sim.proofs.told.TraceAndOneMore.{IsQuiet, answered, sent_on-added, closed_on-added, read_on-added, ended_on-added, sent_by-send, read_by-recv, closed_by-shutdown, closed_by-close, ended_by-recv, other-quiet, quiet-abort, eqb-swap, sent_of, read_of, closed_of, ended_of}

-- what is told of a socket after one happening more
abbrev pub with_more : Account → List ℕ → Bool → List ℕ → Bool → Account
with_more a gave closed got ended = record { gave = a.gave ++ gave; closed = a.closed || closed; got = a.got ++ got; ended = a.ended || ended }

pub told-added : (side : Side) (trace : List Happening) (h : Happening) (i : SocketId) → told side (trace ++ h ∷ []) i ≡ with_more (told side trace i) (sent_of side i h) (closed_of side i h) (read_of side i h) (ended_of side i h)
told-added side trace h i =
    ap (λ x. let a : Account = record { gave = x; closed = closed_on side i (trace ++ h ∷ []); got = read_on side i (trace ++ h ∷ []); ended = ended_on side i (trace ++ h ∷ []) } in a) (sent_on-added side i trace h)
    ∙ (ap (λ x. let a : Account = record { gave = sent_on side i trace ++ sent_of side i h; closed = x; got = read_on side i (trace ++ h ∷ []); ended = ended_on side i (trace ++ h ∷ []) } in a) (closed_on-added side i trace h)
    ∙ (ap (λ x. let a : Account = record { gave = sent_on side i trace ++ sent_of side i h; closed = closed_on side i trace || closed_of side i h; got = x; ended = ended_on side i (trace ++ h ∷ []) } in a) (read_on-added side i trace h)
    ∙ ap (λ x. let a : Account = record { gave = sent_on side i trace ++ sent_of side i h; closed = closed_on side i trace || closed_of side i h; got = read_on side i trace ++ read_of side i h; ended = x } in a) (ended_on-added side i trace h)))

or_false : (a : Bool) → (a || false) ≡ a
or_false true = refl
or_false false = refl

-- the same account, part by part
pub account : (a : Account) (gave got : List ℕ) (closed ended : Bool) → a.gave ≡ gave → a.closed ≡ closed → a.got ≡ got → a.ended ≡ ended → ◌≡◌ {A = Account} a (record { gave = gave; closed = closed; got = got; ended = ended })
account a gave got closed ended is_gave is_closed is_got is_ended =
    ap (λ x. let b : Account = record { gave = x; closed = a.closed; got = a.got; ended = a.ended } in b) is_gave
    ∙ (ap (λ x. let b : Account = record { gave = gave; closed = x; got = a.got; ended = a.ended } in b) is_closed
    ∙ (ap (λ x. let b : Account = record { gave = gave; closed = closed; got = x; ended = a.ended } in b) is_got
    ∙ ap (λ x. let b : Account = record { gave = gave; closed = closed; got = got; ended = x } in b) is_ended))

-- nothing more
nothing-more : (a : Account) (gave got : List ℕ) (closed ended : Bool) → gave ≡ [] → closed ≡ false → got ≡ [] → ended ≡ false → with_more a gave closed got ended ≡ a
nothing-more a gave got closed ended is_gave is_closed is_got is_ended = account (with_more a gave closed got ended) a.gave a.got a.closed a.ended
    (ap (λ l. a.gave ++ l) is_gave ∙ append-nil a.gave) (ap (λ b. a.closed || b) is_closed ∙ or_false a.closed) (ap (λ l. a.got ++ l) is_got ∙ append-nil a.got) (ap (λ b. a.ended || b) is_ended ∙ or_false a.ended)

pub told-quiet : (side : Side) (trace : List Happening) (h : Happening) (i : SocketId) → IsQuiet side i h → told side (trace ++ h ∷ []) i ≡ told side trace i
told-quiet side trace h i quiet = told-added side trace h i ∙ nothing-more (told side trace i) (sent_of side i h) (read_of side i h) (closed_of side i h) (ended_of side i h) quiet.0 quiet.1 quiet.2 quiet.3

-- a call tells nothing of the other side's sockets
pub told-other : (side other : Side) (trace : List Happening) (c : Call) (a : Answer) → other ≡ other_side side → SameTold (told other trace) (told other (trace ++ answered side c a ∷ []))
told-other side other trace c a opposite i = subst (λ s. told s (trace ++ answered side c a ∷ []) i ≡ told s trace i) (sym opposite) (told-quiet (other_side side) trace (answered side c a) i (other-quiet side c a i))

-- What each call tells of its own socket, and that it tells nothing of another.

swapped : (id j : SocketId) → (id.0 == j.0) ≡ false → (j.0 == id.0) ≡ false
swapped id j apart = eqb-swap j.0 id.0 ∙ apart

pub sends-told : (side : Side) (trace : List Happening) (id : SocketId) (octets : Vec ℕ) (count : ℕ)
    → (told side (trace ++ answered side (call.Send id octets) (answer.Sent count) ∷ []) id ≡ (let a = told side trace id in record a { gave = a.gave ++ take count octets.items }))
    × SameBut id (told side trace) (told side (trace ++ answered side (call.Send id octets) (answer.Sent count) ∷ []))
sends-told side trace id octets count = (
  told-added side trace h id ∙ account (with_more a (sent_of side id h) (closed_of side id h) (read_of side id h) (ended_of side id h)) (a.gave ++ take count octets.items) a.got a.closed a.ended
      (ap (λ l. a.gave ++ l) (sent_by-send side id id octets count ∙ ap (λ b. cond b (take count octets.items) []) (eqb-same id.0))) (or_false a.closed) (append-nil a.got) (or_false a.ended),
  λ j apart. told-quiet side trace h j (sent_by-send side id j octets count ∙ ap (λ b. cond b (take count octets.items) []) (swapped id j apart), refl, refl, refl),
)
  where
    h : Happening
    h = answered side (call.Send id octets) (answer.Sent count)

    a : Account
    a = told side trace id

pub receives-told : (side : Side) (trace : List Happening) (id : SocketId) (len : ℕ) (octets : Vec ℕ)
    → (told side (trace ++ answered side (call.Recv id len) (answer.Octets octets) ∷ []) id ≡ (let a = told side trace id in record a { got = a.got ++ octets.items }))
    × SameBut id (told side trace) (told side (trace ++ answered side (call.Recv id len) (answer.Octets octets) ∷ []))
receives-told side trace id len octets = (
  told-added side trace h id ∙ account (with_more a (sent_of side id h) (closed_of side id h) (read_of side id h) (ended_of side id h)) a.gave (a.got ++ octets.items) a.closed a.ended
      (append-nil a.gave) (or_false a.closed) (ap (λ l. a.got ++ l) (read_by-recv side id id len octets ∙ ap (λ b. cond b octets.items []) (eqb-same id.0))) (or_false a.ended),
  λ j apart. told-quiet side trace h j (refl, refl, read_by-recv side id j len octets ∙ ap (λ b. cond b octets.items []) (swapped id j apart), refl),
)
  where
    h : Happening
    h = answered side (call.Recv id len) (answer.Octets octets)

    a : Account
    a = told side trace id

or_true : (a b : Bool) → b ≡ true → (a || b) ≡ true
or_true true b e = refl
or_true false b e = e

pub closes-told : (side : Side) (trace : List Happening) (id : SocketId)
    → (told side (trace ++ answered side (call.Shutdown id) answer.Done ∷ []) id ≡ (let a = told side trace id in record a { closed = true }))
    × SameBut id (told side trace) (told side (trace ++ answered side (call.Shutdown id) answer.Done ∷ []))
closes-told side trace id = (
  told-added side trace h id ∙ account (with_more a (sent_of side id h) (closed_of side id h) (read_of side id h) (ended_of side id h)) a.gave a.got true a.ended
      (append-nil a.gave) (or_true a.closed (closed_of side id h) (closed_by-shutdown side id id ∙ eqb-same id.0)) (append-nil a.got) (or_false a.ended),
  λ j apart. told-quiet side trace h j (refl, closed_by-shutdown side id j ∙ swapped id j apart, refl, refl),
)
  where
    h : Happening
    h = answered side (call.Shutdown id) answer.Done

    a : Account
    a = told side trace id

-- the socket is closed
forsakes-told : (side : Side) (trace : List Happening) (id : SocketId)
    → (told side (trace ++ answered side (call.Close id) answer.Done ∷ []) id ≡ (let a = told side trace id in record a { closed = true }))
    × SameBut id (told side trace) (told side (trace ++ answered side (call.Close id) answer.Done ∷ []))
forsakes-told side trace id = (
  told-added side trace h id ∙ account (with_more a (sent_of side id h) (closed_of side id h) (read_of side id h) (ended_of side id h)) a.gave a.got true a.ended
      (append-nil a.gave) (or_true a.closed (closed_of side id h) (closed_by-close side id id ∙ eqb-same id.0)) (append-nil a.got) (or_false a.ended),
  λ j apart. told-quiet side trace h j (refl, closed_by-close side id j ∙ swapped id j apart, refl, refl),
)
  where
    h : Happening
    h = answered side (call.Close id) answer.Done

    a : Account
    a = told side trace id

-- the call by which a socket is left
abbrev pub leaving_call : Leave → SocketId → Call
leaving_call Close id = call.Close id
leaving_call Abort id = call.Abort id

-- a close closes our side of it too, and an abort tells nothing
abbrev pub account_left : Leave → Account → Account
account_left Close a = record a { closed = true }
account_left Abort a = a

pub leaves-told : (how : Leave) (side : Side) (trace : List Happening) (id : SocketId)
    → (told side (trace ++ answered side (leaving_call how id) answer.Done ∷ []) id ≡ account_left how (told side trace id)) × SameBut id (told side trace) (told side (trace ++ answered side (leaving_call how id) answer.Done ∷ []))
leaves-told Close side trace id = forsakes-told side trace id
leaves-told Abort side trace id =
    let nothing : (i : SocketId) → told side (trace ++ answered side (call.Abort id) answer.Done ∷ []) i ≡ told side trace i = λ i. told-quiet side trace (answered side (call.Abort id) answer.Done) i (quiet-abort side id answer.Done i) in
    (nothing id, λ j apart. nothing j)

pub ends-told : (side : Side) (trace : List Happening) (id : SocketId) (len : ℕ)
    → (told side (trace ++ answered side (call.Recv id len) answer.EndOfStream ∷ []) id ≡ (let a = told side trace id in record a { ended = true }))
    × SameBut id (told side trace) (told side (trace ++ answered side (call.Recv id len) answer.EndOfStream ∷ []))
ends-told side trace id len = (
  told-added side trace h id ∙ account (with_more a (sent_of side id h) (closed_of side id h) (read_of side id h) (ended_of side id h)) a.gave a.got a.closed true
      (append-nil a.gave) (or_false a.closed) (append-nil a.got) (or_true a.ended (ended_of side id h) (ended_by-recv side id id len ∙ eqb-same id.0)),
  λ j apart. told-quiet side trace h j (refl, refl, refl, ended_by-recv side id j len ∙ swapped id j apart),
)
  where
    h : Happening
    h = answered side (call.Recv id len) answer.EndOfStream

    a : Account
    a = told side trace id
