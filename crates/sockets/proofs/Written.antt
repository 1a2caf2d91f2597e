-- A write of one entry, seen in the table.
use Rattle.std.proofs.Common.{◌≡◌, ℕ, ◌<◌, Bool, true, false, if◌then◌else◌, List, length, get_or, set, Some, Result, Ok, Err, ap, subst, sym, ◌∙◌, refl, length-set}
use Rattle.std.specs.List.{find, position, refill}
use Rattle.std.specs.Result.{OnOk, OnErr}
use Rattle.std.proofs.lemmas.List.{set-get_or}
use Rattle.sockets.specs.declared.entry.Entry.{Entry}
use Rattle.sockets.specs.declared.role.Role.{Role}
use Rattle.sockets.specs.Entries.{with_role}
use Rattle.sockets.specs.SocketsView.{SocketsView}
use Rattle.sockets.specs.Lists.{change_first}
use Rattle.sockets.proofs.Firsts.{refill_set, find-position, position-lt-length, change_first-position}

-- The table v is h, and in its entries, lent as the slice zs, the entry at the place of the first that passes was changed.
pub entry_written : (v h : SocketsView) (p : Entry → Bool) (f : Entry → Entry) (zs : List Entry) (i : ℕ) (x y : Entry) → v ≡ h → position p h.entries ≡ Some i → zs ≡ v.entries → x ≡ get_or zs i x → y ≡ f (get_or zs i x) → record v { entries = refill (length v.entries) v.entries (set zs i y) } ≡ record h { entries = change_first p f h.entries }
entry_written v h p f zs i x y same place lent at changed =
    let entries : zs ≡ h.entries = lent ∙ ap (λ (w : SocketsView). w.entries) same in
    let at_place : x ≡ get_or h.entries i x = at ∙ ap (λ ws. get_or ws i x) entries in
    let written : refill (length v.entries) v.entries (set zs i y) ≡ change_first p f h.entries =
    refill_set v.entries zs i y lent ∙ ap (λ ws. set ws i y) (ap (λ (w : SocketsView). w.entries) same) ∙ ap (λ z. set h.entries i z) (changed ∙ ap f (sym at)) ∙ sym (change_first-position p f h.entries i x place at_place)
    in
    ap (λ ws. let r : SocketsView = record v { entries = ws } in r) written ∙ ap (λ (w : SocketsView). let r : SocketsView = record w { entries = change_first p f h.entries } in r) same

-- Such an entry is the first that passes.
pub found_lent : (v h : SocketsView) (p : Entry → Bool) (zs : List Entry) (i : ℕ) (x : Entry) → v ≡ h → position p h.entries ≡ Some i → zs ≡ v.entries → x ≡ get_or zs i x → find p h.entries ≡ Some x
found_lent v h p zs i x same place lent at = find-position p h.entries i x place (at ∙ ap (λ ws. get_or ws i x) (lent ∙ ap (λ (w : SocketsView). w.entries) same))

-- Its place is one of the table.
pub place_within : (v h : SocketsView) (p : Entry → Bool) (i : ℕ) → v ≡ h → position p h.entries ≡ Some i → i < length v.entries
place_within v h p i same place = subst (λ (w : SocketsView). i < length w.entries) (sym same) (position-lt-length p h.entries i place)

-- It is one still.
pub place_written : (v h : SocketsView) (p : Entry → Bool) (zs : List Entry) (i : ℕ) (y : Entry) → v ≡ h → position p h.entries ≡ Some i → zs ≡ v.entries → i < length (refill (length v.entries) v.entries (set zs i y))
place_written v h p zs i y same place lent =
    let here : i < length v.entries = place_within v h p i same place in
    subst (λ ws. i < length ws) (sym (refill_set v.entries zs i y lent)) (subst (λ n. i < n) (sym (length-set v.entries i y)) here)

-- An entry whose role was changed where it stands.
pub role_changed : (change : Role → Role) (z : Entry) (r : Role) → r ≡ change z.role → record z { role = r } ≡ with_role change z
role_changed change z r changed = ap (λ role. let y : Entry = record z { role = role } in y) changed

pub role_changed_if : (b : Bool) (change : Role → Role) (z : Entry) (r : Role) → r ≡ (if b then change z.role else z.role) → record z { role = r } ≡ (if b then with_role change z else z)
role_changed_if true change z r changed = role_changed change z r changed
role_changed_if false change z r changed = ap (λ role. let y : Entry = record z { role = role } in y) changed

-- The table v is h, and of the entry at the place of the first that passes the role was changed.
pub role_written : (v h : SocketsView) (p : Entry → Bool) (change : Role → Role) (zs : List Entry) (i : ℕ) (x : Entry) (r : Role) → v ≡ h → position p h.entries ≡ Some i → zs ≡ v.entries → x ≡ get_or zs i x → r ≡ (let z : Entry = get_or zs i x in change z.role)
    → record v { entries = refill (length v.entries) v.entries (set zs i (let z : Entry = get_or zs i x in record z { role = r })) } ≡ record h { entries = change_first p (with_role change) h.entries }
role_written v h p change zs i x r same place lent at changed = entry_written v h p (with_role change) zs i x _ same place lent at (role_changed change (get_or zs i x) r changed)

-- The same where the entry was left as it is.
pub entry_kept : (v h : SocketsView) (zs : List Entry) (i : ℕ) (x y : Entry) → v ≡ h → zs ≡ v.entries → x ≡ get_or zs i x → y ≡ get_or zs i x → record v { entries = refill (length v.entries) v.entries (set zs i y) } ≡ h
entry_kept v h zs i x y same lent at kept =
    let written : refill (length v.entries) v.entries (set zs i y) ≡ v.entries =
    refill_set v.entries zs i y lent ∙ ap (λ z. set v.entries i z) kept ∙ ap (λ ws. set v.entries i (get_or ws i x)) lent ∙ set-get_or v.entries i x
    in
    ap (λ ws. let r : SocketsView = record v { entries = ws } in r) written ∙ same

pub role_kept : (v h : SocketsView) (zs : List Entry) (i : ℕ) (x : Entry) (r : Role) → v ≡ h → zs ≡ v.entries → x ≡ get_or zs i x → r ≡ (let z : Entry = get_or zs i x in z.role)
    → record v { entries = refill (length v.entries) v.entries (set zs i (let z : Entry = get_or zs i x in record z { role = r })) } ≡ h
role_kept v h zs i x r same lent at kept = entry_kept v h zs i x _ same lent at (ap (λ role. let z : Entry = get_or zs i x in let y : Entry = record z { role = role } in y) kept)

-- A fact that follows from each refusal.
pub on_err : {T E : Type 0} (r : Result T E) (P : Type 0) → ((e : E) → r ≡ Err e → P) → OnErr r P
on_err (Ok x) P p = tt
on_err (Err e) P p = p e refl

-- A fact that holds whatever a call answers.
pub on_ok : {T E : Type 0} (r : Result T E) (P : Type 0) → P → OnOk r P
on_ok (Ok x) P p = p
on_ok (Err e) P p = tt

-- A fact of an answer that follows from another.
pub ok_from : {T E : Type 0} (r : Result T E) (P Q : Type 0) → (P → Q) → OnOk r P → OnOk r Q
ok_from (Ok x) P Q follows p = follows p
ok_from (Err e) P Q follows p = tt
