use Rattle.laws.proofs.Basics.{refl, sym, subst, ◌∙◌, [], ◌∷◌, arith}
use Rattle.language.specs.Kinds.{signs}
use Rattle.language.specs.Symbols.{begins, sign_in, sign}
use Rattle.symbols.proofs.Spelling.{NoneOf, sign-is, sign-two, sign-else, other, no_sign}
use Rattle.symbols.proofs.spellings.sign_at.Goals as goal

pub returns-in-43 : goal.returns-in-43
unfolding begins sign_in sign signs
returns-in-43 c = sign-is 43 _ c.requires c.in-43.is c.sign_of.ensures (λ _. refl)

pub returns-in-45 : goal.returns-in-45
unfolding begins sign_in sign signs
returns-in-45 c = sign-is 45 _ c.requires c.in-45.is c.sign_of-in-45.ensures (λ _. refl)

pub returns-in-42 : goal.returns-in-42
unfolding begins sign_in sign signs
returns-in-42 c = sign-is 42 _ c.requires c.in-42.is c.sign_of-in-42.ensures (λ _. refl)

pub returns-in-47 : goal.returns-in-47
unfolding begins sign_in sign signs
returns-in-47 c = sign-is 47 _ c.requires c.in-47.is c.sign_of-in-47.ensures (λ _. refl)

pub returns-in-61 : goal.returns-in-61
unfolding begins sign_in sign signs
returns-in-61 c = sign-is 61 _ c.requires c.in-61.is c.sign_of-in-61.ensures (λ _. refl)

pub returns-in-38 : goal.returns-in-38
unfolding begins sign_in sign signs
returns-in-38 c = sign-is 38 _ c.requires c.in-38.is c.sign_of-in-38.ensures (λ _. refl)

pub returns-in-124 : goal.returns-in-124
unfolding begins sign_in sign signs
returns-in-124 c = sign-is 124 _ c.requires c.in-124.is c.sign_of-in-124.ensures (λ _. refl)

pub returns-in-33 : goal.returns-in-33
unfolding begins sign_in sign signs
returns-in-33 c = sign-is 33 _ c.requires c.in-33.is c.sign_of-in-33.ensures (λ _. refl)

pub returns-in-64 : goal.returns-in-64
unfolding begins sign_in sign signs
returns-in-64 c = sign-is 64 _ c.requires c.in-64.is c.sign_of-in-64.ensures (λ _. refl)

pub returns-in-40 : goal.returns-in-40
unfolding begins sign_in sign signs
returns-in-40 c = sign-is 40 _ c.requires c.in-40.is c.sign_of-in-40.ensures (λ _. refl)

pub returns-in-41 : goal.returns-in-41
unfolding begins sign_in sign signs
returns-in-41 c = sign-is 41 _ c.requires c.in-41.is c.sign_of-in-41.ensures (λ _. refl)

pub returns-in-44 : goal.returns-in-44
unfolding begins sign_in sign signs
returns-in-44 c = sign-is 44 _ c.requires c.in-44.is c.sign_of-in-44.ensures (λ _. refl)

pub returns-in-59 : goal.returns-in-59
unfolding begins sign_in sign signs
returns-in-59 c = sign-is 59 _ c.requires c.in-59.is c.sign_of-in-59.ensures (λ _. refl)

pub returns-in-61-second : goal.returns-in-61-second
unfolding begins sign_in sign signs
returns-in-61-second c = sign-two 126 61 c.args.bytes.now (omega arith) c.in-126.is
    (sym c.second.ensures ∙ c.in-61-second.is) c.sign_of-in-61-second.ensures (λ _. refl)

pub returns-in_default-second : goal.returns-in_default-second
unfolding begins sign_in sign signs
returns-in_default-second c = sign-else 126 (61 ∷ []) c.args.bytes.now c.requires c.in-126.is
    (subst (NoneOf (61 ∷ [])) c.second.ensures c.in_default-second.in_default-second-own.rest)
    c.refused_here.ensures refl (λ x _ n. rw (sign_in, begins, other 61 x n.1) refl)

pub returns-in-61-second-2 : goal.returns-in-61-second-2
unfolding begins sign_in sign signs
returns-in-61-second-2 c = sign-two 60 61 c.args.bytes.now (omega arith) c.in-60.is
    (sym c.second-in-60.ensures ∙ c.in-61-second-2.is) c.sign_of-in-61-second-2.ensures (λ _. refl)

pub returns-in-60-second : goal.returns-in-60-second
unfolding begins sign_in sign signs
returns-in-60-second c = sign-two 60 60 c.args.bytes.now (omega arith) c.in-60.is
    (sym c.second-in-60.ensures ∙ c.in-60-second.is) c.sign_of-in-60-second.ensures (λ _. refl)

pub returns-in_default-second-2 : goal.returns-in_default-second-2
unfolding begins sign_in sign signs
returns-in_default-second-2 c = sign-else 60 (60 ∷ 61 ∷ []) c.args.bytes.now c.requires c.in-60.is
    (subst (NoneOf (60 ∷ 61 ∷ [])) c.second-in-60.ensures c.in_default-second-2.in_default-second-2-own.rest)
    c.sign_of-in_default-second-2.ensures refl (λ x _ n. rw (sign_in, begins, other 61 x n.0.1, other 60 x n.1) refl)

pub returns-in-61-second-3 : goal.returns-in-61-second-3
unfolding begins sign_in sign signs
returns-in-61-second-3 c = sign-two 62 61 c.args.bytes.now (omega arith) c.in-62.is
    (sym c.second-in-62.ensures ∙ c.in-61-second-3.is) c.sign_of-in-61-second-3.ensures (λ _. refl)

pub returns-in-62-second : goal.returns-in-62-second
unfolding begins sign_in sign signs
returns-in-62-second c = sign-two 62 62 c.args.bytes.now (omega arith) c.in-62.is
    (sym c.second-in-62.ensures ∙ c.in-62-second.is) c.sign_of-in-62-second.ensures (λ _. refl)

pub returns-in_default-second-3 : goal.returns-in_default-second-3
unfolding begins sign_in sign signs
returns-in_default-second-3 c = sign-else 62 (62 ∷ 61 ∷ []) c.args.bytes.now c.requires c.in-62.is
    (subst (NoneOf (62 ∷ 61 ∷ [])) c.second-in-62.ensures c.in_default-second-3.in_default-second-3-own.rest)
    c.sign_of-in_default-second-3.ensures refl (λ x _ n. rw (sign_in, begins, other 61 x n.0.1, other 62 x n.1) refl)

pub returns-in-61-second-4 : goal.returns-in-61-second-4
unfolding begins sign_in sign signs
returns-in-61-second-4 c = sign-two 58 61 c.args.bytes.now (omega arith) c.in-58.is
    (sym c.second-in-58.ensures ∙ c.in-61-second-4.is) c.sign_of-in-61-second-4.ensures (λ _. refl)

pub returns-in_default-second-4 : goal.returns-in_default-second-4
unfolding begins sign_in sign signs
returns-in_default-second-4 c = sign-else 58 (61 ∷ []) c.args.bytes.now c.requires c.in-58.is
    (subst (NoneOf (61 ∷ [])) c.second-in-58.ensures c.in_default-second-4.in_default-second-4-own.rest)
    c.sign_of-in_default-second-4.ensures refl (λ x _ n. rw (sign_in, begins, other 61 x n.1) refl)

pub returns-in-40-second : goal.returns-in-40-second
unfolding begins sign_in sign signs
returns-in-40-second c = sign-two 36 40 c.args.bytes.now (omega arith) c.in-36.is
    (sym c.second-in-36.ensures ∙ c.in-40-second.is) c.sign_of-in-40-second.ensures (λ _. refl)

pub returns-in-41-second : goal.returns-in-41-second
unfolding begins sign_in sign signs
returns-in-41-second c = sign-two 36 41 c.args.bytes.now (omega arith) c.in-36.is
    (sym c.second-in-36.ensures ∙ c.in-41-second.is) c.sign_of-in-41-second.ensures (λ _. refl)

pub returns-in_default-second-5 : goal.returns-in_default-second-5
unfolding begins sign_in sign signs
returns-in_default-second-5 c = sign-else 36 (41 ∷ 40 ∷ []) c.args.bytes.now c.requires c.in-36.is
    (subst (NoneOf (41 ∷ 40 ∷ [])) c.second-in-36.ensures c.in_default-second-5.in_default-second-5-own.rest)
    c.refused_here-in_default-second-5.ensures refl (λ x _ n. rw (sign_in, begins, other 40 x n.0.1, other 41 x n.1) refl)

pub returns-in_default : goal.returns-in_default
returns-in_default c = c.refused_here-in_default.ensures ∙ no_sign _ c.requires c.in_default.in_default-own.rest
