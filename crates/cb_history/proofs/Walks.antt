-- What holds along the deliveries, and what one more fact is to the casts.
use Rattle.std.proofs.Common.{◌≡◌, ℕ, zero, suc, List, [], ◌∷◌, ◌++◌, length, Option, Some, None, refl, sym, ap, ◌∙◌, append_assoc}
use Rattle.std.proofs.lemmas.List.{append-nil}
use Rattle.cb_frames.specs.Fields.{CastFields, StatusFields, Carried, messages_of}
use Rattle.cb_history.specs.Facts.{Fact, OwnCast, CastReceived, StatusReceived, OwnStatus, casts_in, messages_in}
use Rattle.cb_history.specs.View.{next_delivery, with_next, drained, drain, seen_after, view}
use Rattle.cb_history.specs.Answers.{own_casts}
use Rattle.cb_history.specs.ViewLaws.{ViewGrows}
use Rattle.cb_history.proofs.Views.{view_with_one_more, casts_in-append}

keeps_on : (size : ℕ) (casts : List CastFields) (P : List Carried → Type 0) (budget : ℕ) (seen : List Carried) (o : Option Carried) → next_delivery size casts seen ≡ o → P seen
    → ((m : Carried) → next_delivery size casts seen ≡ Some m → P (drained size casts budget (seen ++ m ∷ [])))
    → P (with_next o seen (λ m. drained size casts budget (seen ++ m ∷ [])))
keeps_on size casts P budget seen None e p go = p
keeps_on size casts P budget seen (Some m) e p go = go m e

drained_keeps : (size : ℕ) (casts : List CastFields) (P : List Carried → Type 0) → ((seen : List Carried) (m : Carried) → P seen → next_delivery size casts seen ≡ Some m → P (seen ++ m ∷ []))
    → (budget : ℕ) (seen : List Carried) → P seen → P (drained size casts budget seen)
unfolding drained
drained_keeps size casts P step zero seen p = p
drained_keeps size casts P step (suc budget) seen p = keeps_on size casts P budget seen (next_delivery size casts seen) refl p (λ m e. drained_keeps size casts P step budget (seen ++ m ∷ []) (step seen m p e))

-- what each delivery keeps, all of them keep
pub drain_keeps : (size : ℕ) (casts : List CastFields) (P : List Carried → Type 0) → ((seen : List Carried) (m : Carried) → P seen → next_delivery size casts seen ≡ Some m → P (seen ++ m ∷ [])) → (seen : List Carried) → P seen → P (drain size casts seen)
drain_keeps size casts P step seen p = drained_keeps size casts P step (length (messages_in casts)) seen p

-- deliveries stand behind what was seen
pub drain_grows : (size : ℕ) (casts : List CastFields) (seen : List Carried) → (more : List Carried) × (drain size casts seen ≡ seen ++ more)
drain_grows size casts seen =
    drain_keeps size casts (λ (now : List Carried). (more : List Carried) × (now ≡ seen ++ more))
    (λ now m p e. (p.0 ++ m ∷ [], ap (λ (ms : List Carried). ms ++ m ∷ []) p.1 ∙ append_assoc seen p.0 (m ∷ []))) seen ([], sym (append-nil seen))

after_grows : (size : ℕ) (casts : List CastFields) (seen : List Carried) (f : Fact) → (more : List Carried) × (seen_after size casts seen f ≡ seen ++ more)
after_grows size casts seen (OwnCast c) = (messages_of c, refl)
after_grows size casts seen (CastReceived c) = drain_grows size casts seen
after_grows size casts seen (StatusReceived s) = ([], sym (append-nil seen))
after_grows size casts seen (OwnStatus s) = ([], sym (append-nil seen))

pub view_grows : (size : ℕ) (facts : List Fact) (f : Fact) → (more : List Carried) × (view size (facts ++ f ∷ []) ≡ view size facts ++ more)
view_grows size facts f =
    let after = after_grows size (casts_in (facts ++ f ∷ [])) (view size facts) f in
    (after.0, view_with_one_more size facts f ∙ after.1)

pub view_only_grows : ViewGrows
view_only_grows size facts [] = ([], ap (view size) (append-nil facts) ∙ sym (append-nil (view size facts)))
view_only_grows size facts (f ∷ more) =
    let one = view_grows size facts f in
    let others = view_only_grows size (facts ++ f ∷ []) more in (
      one.0 ++ others.0,
      ap (view size) (sym (append_assoc facts (f ∷ []) more)) ∙ others.1 ∙ ap (λ (ms : List Carried). ms ++ others.0) one.1 ∙ append_assoc (view size facts) one.0 others.0,
    )

-- ---- the view after each kind of fact

pub view_own : (size : ℕ) (facts : List Fact) (c : CastFields) → view size (facts ++ OwnCast c ∷ []) ≡ view size facts ++ messages_of c
view_own size facts c = view_with_one_more size facts (OwnCast c)

pub view_received : (size : ℕ) (facts : List Fact) (c : CastFields) → view size (facts ++ CastReceived c ∷ []) ≡ drain size (casts_in facts ++ c ∷ []) (view size facts)
view_received size facts c = view_with_one_more size facts (CastReceived c) ∙ ap (λ (casts : List CastFields). drain size casts (view size facts)) (casts_in-append facts (CastReceived c))

pub view_status : (size : ℕ) (facts : List Fact) (s : StatusFields) → view size (facts ++ StatusReceived s ∷ []) ≡ view size facts
view_status size facts s = view_with_one_more size facts (StatusReceived s)

pub view_reported : (size : ℕ) (facts : List Fact) (s : StatusFields) → view size (facts ++ OwnStatus s ∷ []) ≡ view size facts
view_reported size facts s = view_with_one_more size facts (OwnStatus s)

-- ---- own casts

pub own_casts-own : (facts : List Fact) (c : CastFields) → own_casts (facts ++ OwnCast c ∷ []) ≡ own_casts facts ++ c ∷ []
own_casts-own [] c = refl
own_casts-own (OwnCast d ∷ facts) c = ap (λ (cs : List CastFields). d ∷ cs) (own_casts-own facts c)
own_casts-own (CastReceived d ∷ facts) c = own_casts-own facts c
own_casts-own (StatusReceived s ∷ facts) c = own_casts-own facts c
own_casts-own (OwnStatus s ∷ facts) c = own_casts-own facts c

abbrev pub IsNotOwn : Fact → Type 0
IsNotOwn (OwnCast c) = ⊥
IsNotOwn (CastReceived c) = Unit {0}
IsNotOwn (StatusReceived s) = Unit {0}
IsNotOwn (OwnStatus s) = Unit {0}

alone_not_own : (f : Fact) → IsNotOwn f → own_casts (f ∷ []) ≡ []
alone_not_own (OwnCast c) h = absurd h
alone_not_own (CastReceived c) h = refl
alone_not_own (StatusReceived s) h = refl
alone_not_own (OwnStatus s) h = refl

pub own_casts-other : (facts : List Fact) (f : Fact) → IsNotOwn f → own_casts (facts ++ f ∷ []) ≡ own_casts facts
own_casts-other [] f h = alone_not_own f h
own_casts-other (OwnCast d ∷ facts) f h = ap (λ (cs : List CastFields). d ∷ cs) (own_casts-other facts f h)
own_casts-other (CastReceived d ∷ facts) f h = own_casts-other facts f h
own_casts-other (StatusReceived s ∷ facts) f h = own_casts-other facts f h
own_casts-other (OwnStatus s ∷ facts) f h = own_casts-other facts f h
