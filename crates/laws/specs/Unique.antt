-- At most one front of a run of bytes is well-formed, and reading finds it.
use Rattle.std.specs.Prelude.{ℕ, ◌≡◌, List, ◌++◌, length, take, T}
use Rattle.std.proofs.Common.{sym, ap, ◌∙◌, arith, length-append, take_at}
use Rattle.std.proofs.Math.Seq.{take-append_seam}
use Rattle.standard.specs.Answer.{Answer, got, at, limit_outside}
use Rattle.standard.specs.Tree.{Tree}
use Rattle.standard.specs.Grammar.{Formed}
use Rattle.standard.specs.Read.{settled, front}
use Rattle.standard.specs.Facts.{T_true}
use Rattle.standard.specs.Outcomes.{in_force, arrived}
use Rattle.laws.specs.Answers.{Holds, yes', no', on, weaken, out, need_holds, Left}
use Rattle.laws.specs.Complete.{complete}
use Rattle.laws.specs.Sound.{sound}

-- well-formed bytes are read, whatever stands behind them
pub front_complete : (l : ℕ) (v : Tree) (a rest : List ℕ) → Formed l v a → front l (a ++ rest) ≡ got (v, rest)
unfolding front settled
front_complete l v a rest h = ap settled (complete l v a h.form 0 rest)

settled_holds : {A : Type 0} {P : A → Type 0} {m : Answer A} → Holds P m → Holds P (settled m)
unfolding settled
settled_holds (yes' h) = yes' h
settled_holds no' = no'

-- what is read is well-formed
pub front_sound : (l : ℕ) (r : List ℕ) → Holds (λ x. Left (Formed l x.0) r x.1) (front l r)
unfolding front
front_sound l r = settled_holds (weaken (sound l 0 r) (λ x h. record { front = h.front; split = h.split; holds = record { form = h.holds } }))

-- a value is read exactly where a front is well-formed
pub front_reads : (l : ℕ) (r s : List ℕ) (v : Tree) → front l r ≡ got (v, s) → Left (Formed l v) r s
front_reads l r s v e = out (rw e at (front_sound l r))

pub front_read : (l : ℕ) (r s : List ℕ) (v : Tree) → Left (Formed l v) r s → front l r ≡ got (v, s)
front_read l r s v h = ap (front l) h.split ∙ front_complete l v h.front s h.holds

-- the same of what arrives, at a limit that may be named
pub arrived_complete : (l : ℕ) (v : Tree) (a rest : List ℕ) → T (in_force l) → Formed l v a → arrived l (a ++ rest) ≡ got (v, rest)
unfolding arrived
arrived_complete l v a rest t h = rw (T_true (in_force l) t) (front_complete l v a rest h)

pub arrived_sound : (l : ℕ) (r : List ℕ) → Holds (λ x. T (in_force l) × Left (Formed l x.0) r x.1) (arrived l r)
unfolding arrived
arrived_sound l r = on (need_holds (in_force l) limit_outside (at 0)) (λ u t. weaken (front_sound l r) (λ x h. (t, h)))

pub arrived_reads : (l : ℕ) (r s : List ℕ) (v : Tree) → arrived l r ≡ got (v, s) → T (in_force l) × Left (Formed l v) r s
arrived_reads l r s v e = out (rw e at (arrived_sound l r))

same_front : (a b r s : List ℕ) → r ≡ s → a ++ r ≡ b ++ s → a ≡ b
same_front a b r s z e =
    let n : length a ≡ length b = omega (arith, simp length-append at (ap length e), ap length z) in
    sym (take-append_seam a r) ∙ ap (take (length a)) e ∙ take_at b s (length a) (sym n)

-- two well-formed fronts of one run of bytes are the same, and have the same tree
pub unique : (l : ℕ) (v w : Tree) (a b r s : List ℕ) → Formed l v a → Formed l w b → a ++ r ≡ b ++ s → (v ≡ w) × (r ≡ s) × (a ≡ b)
unique l v w a b r s f g e =
    let x : front l (a ++ r) ≡ got (v, r) = front_complete l v a r f in
    let y : front l (b ++ s) ≡ got (w, s) = front_complete l w b s g in
    let q : ◌≡◌ {A = Tree × List ℕ} (v, r) (w, s) = cc in
    let z : r ≡ s = ap (λ t. t.1) q in
    (ap (λ t. t.0) q, z, same_front a b r s z e)
