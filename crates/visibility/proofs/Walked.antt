-- A run of calls or of orders, as far as it has come.
use Rattle.std.proofs.Common.{◌≡◌, ℕ, zero, suc, ◌+◌, ◌<◌, Bool, List, [], ◌∷◌, map, reverse, length, get_or, take, drop, set, Result, sym, refl, ap, ◌∙◌, subst, subst₂, ⊎_elim, arith}
use Rattle.std.specs.List.{HoldsAt}
use Rattle.std.proofs.lemmas.List.{take_more, drop_more, reverse-append, get_or_default, length-map, get_or-set_same, get_or-set_other, drop-set-lt, drop-drop, length-set}
use Rattle.std.proofs.lemmas.Bool.{cases_eq, false≢true}
use Rattle.visibility.specs.declared.refusal.Refusal.{Refusal}
use Rattle.visibility.specs.declared.call.Call.{Call}
use Rattle.visibility.specs.declared.call.Answer.{Answer}
use Rattle.visibility.specs.declared.order.Order.{Order}
use Rattle.visibility.specs.Calls.{Answered as CallAnswered}
use Rattle.visibility.specs.Histories.{Stands}
use Rattle.visibility.specs.Replies.{Answered, calls_of}
use Rattle.visibility.specs.Sets.{Numbers, none}
use Rattle.visibility.specs.States.{State}
use Rattle.visibility.specs.Worlds.{World}

-- a fresh table stands for no calls
pub fresh_stands : (w : World) (s : State) → s.shut ≡ none → s.filled ≡ none → Stands w [] s
fresh_stands w s hs hf = record {
  shut = hs;
  current = λ a l f. false≢true (sym (ap (λ (v : Numbers). v a) hf) ∙ f);
  filled = λ a l c. absurd c;
  true_row = λ a l f. absurd (false≢true (sym (ap (λ (v : Numbers). v a) hf) ∙ f));
}

-- the calls up to one, the latest first
latest :
    (calls : List Call) (i : ℕ) (c : Call)
    → i < length calls → get_or calls i c ≡ c
    → reverse (take (i + 1) calls) ≡ c ∷ reverse (take i calls)
latest calls i c l read =
    ap reverse (take_more calls i c l) ∙ reverse-append (take i calls) (get_or calls i c ∷ []) ∙ ap (λ (x : Call). x ∷ reverse (take i calls)) read

-- a run that goes through the list `asked`, whose calls are `calls`, and writes over the list `space`
module _ {X Y : Type 0} (w : World) (Right : List Call → X → Y → Type 0) (calls : List Call) (asked : List X) (space : List Y) where
  -- the places below i hold what is right, the others are as they were, and the table stands for the calls so far
  abbrev pub Ran : ℕ → List Y → State → Type 0
  Ran i ys s =
      Stands w (reverse (take i calls)) s
      × ((j : ℕ) → j < i → HoldsAt (λ x. HoldsAt (λ y. Right (reverse (take j calls)) x y) ys j) asked j)
      × (drop i ys ≡ drop i space)
      × (length ys ≡ length space)

  pub ran_none : (s : State) → Stands w [] s → Ran 0 space s
  ran_none s st = (st, (λ j l. absurd (omega arith)), refl, refl)

  ran_on :
      (i : ℕ) (ys : List Y) (s t : State) (x : X) (y : Y) (c : Call)
      → i < length asked → i < length ys → get_or asked i x ≡ x
      → reverse (take (i + 1) calls) ≡ c ∷ reverse (take i calls)
      → Ran i ys s
      → (Stands w (reverse (take i calls)) s → Right (reverse (take i calls)) x y)
      → (Stands w (reverse (take i calls)) s → Stands w (c ∷ reverse (take i calls)) t)
      → Ran (i + 1) (set ys i y) t
  ran_on i ys s t x y c l m read last was says keeps = (
    subst (λ (h : List Call). Stands w h t) (sym last) (keeps was.0),
    (λ j below. ⊎_elim
        (λ (e : j ≡ i). λ d a.
        subst (λ (n : ℕ). Right (reverse (take n calls)) (get_or asked n d) (get_or (set ys i y) n a)) (sym e)
        (subst₂ (λ (u : X) (v : Y). Right (reverse (take i calls)) u v)
        (sym (get_or_default asked i d x l ∙ read)) (sym (get_or-set_same ys i y a m)) (says was.0)))
        (λ (ne : j ≡ i → ⊥). λ d a.
        subst (λ (v : Y). Right (reverse (take j calls)) (get_or asked j d) v)
        (sym (get_or-set_other ys i j y a ne)) (was.1 j (omega arith) d a))
        (cases_eq j i)),
    drop-set-lt (i + 1) ys i y (omega arith)
        ∙ sym (drop-drop 1 i ys) ∙ ap (drop 1) was.2 ∙ drop-drop 1 i space,
    length-set ys i y ∙ was.3,
  )

-- calls with their answers
module _ (w : World) (calls : List Call) (space : List (Result Answer Refusal)) where
  abbrev pub RanCalls : ℕ → List (Result Answer Refusal) → State → Type 0
  RanCalls = Ran w (CallAnswered w) calls calls space

  pub calls_more :
      (i : ℕ) (answers : List (Result Answer Refusal)) (s t : State) (c : Call) (r : Result Answer Refusal)
      → i < length calls → i < length answers → get_or calls i c ≡ c
      → RanCalls i answers s
      → (Stands w (reverse (take i calls)) s → CallAnswered w (reverse (take i calls)) c r)
      → (Stands w (reverse (take i calls)) s → Stands w (c ∷ reverse (take i calls)) t)
      → RanCalls (i + 1) (set answers i r) t
  calls_more i answers s t c r l m read =
      ran_on w (CallAnswered w) calls calls space i answers s t c r c l m read (latest calls i c l read)

get_d_map : {X Y : Type 0} (f : X → Y) (xs : List X) (i : ℕ) (d : X) → get_or (map f xs) i (f d) ≡ f (get_or xs i d)
get_d_map f [] i d = refl
get_d_map f (x ∷ xs) zero d = refl
get_d_map f (x ∷ xs) (suc i) d = get_d_map f xs i d

-- orders, which hold their answers
module _ (k : Bool) (w : World) (old : List Order) where
  abbrev pub RanOrders : ℕ → List Order → State → Type 0
  RanOrders = Ran w (Answered k w) (calls_of old) old old

  pub orders_more :
      (i : ℕ) (orders : List Order) (s t : State) (o p : Order)
      → i < length orders → o ≡ get_or orders i o
      → RanOrders i orders s
      → (Stands w (reverse (take i (calls_of old))) s → Answered k w (reverse (take i (calls_of old))) o p)
      → (Stands w (reverse (take i (calls_of old))) s → Stands w (o.call ∷ reverse (take i (calls_of old))) t)
      → RanOrders (i + 1) (set orders i p) t
  orders_more i orders s t o p m read was =
      let l : i < length old = omega (arith, was.3) in
      let first : get_or old i o ≡ o = head_same o (drop i orders) (drop i old) (get_or orders i o) (get_or old i o) (drop (i + 1) orders) (drop (i + 1) old) (drop_more orders i o m) (drop_more old i o l) was.2 ∙ sym read in
      let same : get_or (calls_of old) i o.call ≡ o.call = get_d_map (λ (o : Order). o.call) old i o ∙ ap (λ (o : Order). o.call) first in
      ran_on w (Answered k w) (calls_of old) old old i orders s t o p o.call l m first
      (latest (calls_of old) i o.call (omega (arith, length-map old (λ (o : Order). o.call))) same) was
    where
      head_same : {X : Type 0} (o : X) (us vs : List X) (x y : X) (xs ys : List X) → us ≡ x ∷ xs → vs ≡ y ∷ ys → us ≡ vs → y ≡ x
      head_same o us vs x y xs ys a b e = let q : y ∷ ys ≡ x ∷ xs = sym b ∙ sym e ∙ a in cc
