-- Why no datagram moves a connection.
use Rattle.std.proofs.Common.{◌≡◌, inl, inr, ◌++◌, Bool, true, false, cond, List, [], ◌∷◌, Option, Some, None, refl, ◌∙◌, ap}
use Rattle.std.specs.List.{filter}
use Rattle.tcp_state.specs.Edges as edge
use Rattle.sockets.specs.declared.entry.Entry.{Entry}
use Rattle.sockets.specs.SocketsView.{SocketsView}
use Rattle.sockets.specs.Causes.{Event, after_event, Follows}
use Rattle.sockets.specs.Traffic.{is_stream, streams, is_of_datagrams}
use Rattle.sockets.proofs.Followed.{IsNothing}
use Rattle.sockets.proofs.Steps.{IsEventOf, ticks_it, IsStepOf, stays, moves, ends, requeues, binds_datagrams, IsJoining, made_datagrams, IsStepped, followed, joined, stepped}

abbrev of_stream : Entry → Bool
of_stream e = is_stream e.role

-- an event of datagrams is none of a connection
none_of_connection : (h : SocketsView) (x : Entry) (e : Event) (ev : edge.Event) → is_of_datagrams e ≡ true → IsEventOf h x e ev → ⊥
none_of_connection h x _ _ of (ticks_it now) = cc
none_of_connection h x _ _ of _ = cc

-- what is done to a UDP socket alone is seen nowhere among the others
abbrev IsUnseen : Entry → Option Entry → Type 0
IsUnseen x None = ⊥
IsUnseen x (Some y) = (xs : List Entry) → filter of_stream (y ∷ xs) ≡ filter of_stream (x ∷ xs)

step_unseen : (h : SocketsView) (e : Event) → is_of_datagrams e ≡ true → (x : Entry) (o : Option Entry) → IsStepOf h e x o → IsUnseen x o
step_unseen h e of x _ stays = λ xs. refl
step_unseen h e of _ _ (requeues id bound before after) = λ xs. refl
step_unseen h e of _ _ (binds_datagrams id bound local before after takes) = λ xs. refl
step_unseen h e of _ _ (moves ev id c l meets kept) = absurd (none_of_connection h _ e ev of meets)
step_unseen h e of _ _ (ends ev id c l meets removed) = absurd (none_of_connection h _ e ev of meets)
step_unseen h _ of _ _ _ = cc

streams_stay : (Step : Entry → Option Entry → Type 0) → ((x : Entry) (o : Option Entry) → Step x o → IsUnseen x o) → (xs ys : List Entry) → Follows Step IsNothing xs ys → filter of_stream ys ≡ filter of_stream xs
streams_stay Step unseen [] ys f = ap (filter of_stream) f
streams_stay Step unseen (x ∷ xs) [] f = absurd (unseen x None f.0)
streams_stay Step unseen (x ∷ xs) (y ∷ ys) (inl f) = unseen x (Some y) f.0 ys ∙ ap (λ (zs : List Entry). cond (of_stream x) (x ∷ zs) zs) (streams_stay Step unseen xs ys f.1)
streams_stay Step unseen (x ∷ xs) (y ∷ ys) (inr f) = absurd (unseen x None f.0)

joined_stay : (xs : List Entry) (x : Entry) → of_stream x ≡ false → filter of_stream (xs ++ x ∷ []) ≡ filter of_stream xs
joined_stay [] x other = rw other
joined_stay (y ∷ ys) x other = ap (λ (zs : List Entry). cond (of_stream y) (y ∷ zs) zs) (joined_stay ys x other)

joining_unseen : (h : SocketsView) (e : Event) (x : Entry) → is_of_datagrams e ≡ true → IsJoining h e x → of_stream x ≡ false
joining_unseen h _ _ of made_datagrams = refl
joining_unseen h _ _ of _ = cc

pub no_stream_moves : (h : SocketsView) (e : Event) → is_of_datagrams e ≡ true → streams (after_event h e) ≡ streams h
no_stream_moves h e of = by_step (after_event h e) (stepped h e)
  where
    by_step : (w : SocketsView) → IsStepped h e w → streams w ≡ streams h
    by_step w (followed f) = streams_stay (IsStepOf h e) (step_unseen h e of) h.entries w.entries f.entries
    by_step _ (joined {x = x} j) = joined_stay h.entries x (joining_unseen h e x of j)
