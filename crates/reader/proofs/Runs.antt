-- The runs that are due, as the code keeps them: the one on top, and a vector of the others.
use Rattle.std.specs.Prelude.{ℕ, zero, suc, Option, Some, None, ◌+◌, ◌-◌, ◌≤◌, ◌<◌, ◌≡◌, List, [], ◌∷◌, ◌++◌, length}
use Rattle.std.proofs.Common.{sym, ap, ◌∙◌, arith, append-nil, length-append}
use Rattle.std.proofs.lemmas.List.Sums.{fold-append}
use Rattle.std.specs.Option.{option_to_list}
use Rattle.std.specs.List.{fold}
use Rattle.laws.specs.Flat.{Head, Run, run, push}
use Rattle.laws.specs.Flow.{push_length}
use Rattle.reader.specs.Runs.{head_is, put_run, kept_is}
use Rattle.reader.specs.declared.due.Run as code

fold_length : (t : List Run) (rs : List code.Run) → length (fold put_run t rs) ≤ length t + length rs
fold_length t [] = omega arith
fold_length t (r ∷ rs) = omega (arith, fold_length (put_run t r) rs, push_length r.left (head_is r.code) t)

kept_length : (rs : List code.Run) → length (kept_is rs) ≤ length rs
kept_length rs = omega (arith, fold_length [] rs)

-- a run that makes the stack longer has a value
push_some : (k : ℕ) (h : Head) (t : List Run) → length t < length (push k h t) → 1 ≤ k
unfolding push
push_some zero h t i = absurd (omega arith)
push_some (suc k) h t i = omega arith

pub push_none : (k : ℕ) (h : Head) (t : List Run) → k ≡ 0 → push k h t ≡ t
unfolding push
push_none k h t e = rw e

pub push_one : (k : ℕ) (h : Head) (t : List Run) → 1 ≤ k → push k h t ≡ run (k - 1) h ∷ t
unfolding push
push_one zero h t i = absurd (omega arith)
push_one (suc k) h t i = let e : suc k - 1 ≡ k = omega arith in rw e

-- a run that is put behind those that are kept
pub kept_more : (rs : List code.Run) (x : code.Run) → kept_is (rs ++ x ∷ []) ≡ put_run (kept_is rs) x
kept_more rs x = fold-append put_run [] rs (x ∷ [])

-- none of the runs that are kept is used up, where one is put behind them
pub more_full : (rs : List code.Run) (x : code.Run) → length (kept_is rs) ≡ length rs → 1 ≤ x.left → length (kept_is (rs ++ x ∷ [])) ≡ length (rs ++ x ∷ [])
more_full rs x f o = rw (kept_more rs x, push_one x.left (head_is x.code) (kept_is rs) o, length-append rs (x ∷ [])) (omega (arith, f))

-- The last of them is taken, where the run on top is, with k left
pub some_kept : (rs : List code.Run) (k : ℕ) (h : Head) → k ≡ 0 → 1 ≤ length (push k h (kept_is rs)) → 0 < length rs
some_kept rs k h e i = omega (arith, ap length (push_none k h (kept_is rs) e), kept_length rs)

module _ (rs : List code.Run) (x : code.Run) (f : length (kept_is (rs ++ x ∷ [])) ≡ length (rs ++ x ∷ [])) where
  grown : length (push x.left (head_is x.code) (kept_is rs)) ≡ length rs + 1
  grown = ap length (sym (kept_more rs x)) ∙ f ∙ length-append rs (x ∷ [])

  still_full : length (kept_is rs) ≡ length rs
  still_full = omega (arith, grown, kept_length rs, push_length x.left (head_is x.code) (kept_is rs))

  last_some : 1 ≤ x.left
  last_some = push_some x.left (head_is x.code) (kept_is rs) (omega (arith, grown, kept_length rs))

-- what stands below, and what is on top
pub rest_full : (old new : List code.Run) (o : Option code.Run) → length (kept_is old) ≡ length old → old ≡ new ++ option_to_list o → length (kept_is new) ≡ length new
rest_full old new None f e = rw (e, append-nil) at f
rest_full old new (Some x) f e = still_full new x (rw e at f)

module _ (old new : List code.Run) (x : code.Run) (f : length (kept_is old) ≡ length old) (e : old ≡ new ++ x ∷ []) where
  pub last_left : 1 ≤ x.left
  last_left = last_some new x (rw e at f)

  pub popped : (k : ℕ) (h : Head) → k ≡ 0 → push x.left (head_is x.code) (kept_is new) ≡ push k h (kept_is old)
  popped k h z = sym (kept_more new x) ∙ ap kept_is (sym e) ∙ sym (push_none k h (kept_is old) z)
