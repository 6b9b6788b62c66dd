-- What reading gives: a value and what is left of its room, or the first refusal (docs/FORMAT.md, 5.3).
-- A room is the input or the body of the parent. Each function is told the place where its room begins. Recursion is on the levels left.
use Rattle.std.specs.Prelude.{ℕ, zero, suc, ◌+◌, ◌-◌, List, [], ◌∷◌, leb, length, take, drop}
use Rattle.standard.specs.Answer.{Answer, got, refuse, at, byte, offset, ◌>>=◌, ◌>>◌, need, too_deep, element_unfit, input_short, code_unknown, payload_bad, size_amiss}
use Rattle.standard.specs.Bytes.{unbe}
use Rattle.standard.specs.Tree.{Tree, node, Trees, none, more}
use Rattle.standard.specs.Codes.{Scalar, constant, whole, small, raw, sized, Layout, unknown, described, scalar, compound, array, layout_of, kind_of, is_code, element}
use Rattle.standard.specs.Kinds.{fair, clean, good_length, paired, named}
use Rattle.standard.specs.Grammar.{extend}

-- the first w bytes of a room, and the rest of it
unfoldable pub cut : (place width : ℕ) → List ℕ → Answer (List ℕ × List ℕ)
cut p w r = do
  need (leb w (length r)) input_short (at p)
  got (take w r, drop w r)

-- number, text and rest behind the code of a scalar
unfoldable pub plain : Scalar → (place : ℕ) → List ℕ → Answer (ℕ × List ℕ × List ℕ)
plain (constant n) p r = got (n, [], r)
plain (whole w) p r = do
  (a, z) ← cut p w r
  got (unbe a, [], z)
plain (small w) p r = do
  (a, z) ← cut p 1 r
  got (extend w (unbe a), [], z)
plain (raw w) p r = do
  (a, z) ← cut p w r
  got (0, a, z)
plain (sized w) p r = do
  (a, b) ← cut p w r
  (t, z) ← cut p (unbe a) b
  got (unbe a, t, z)

-- how many bytes stand between a code and its text
unfoldable pub ahead : Scalar → ℕ
ahead (constant n) = 0
ahead (whole w) = 0
ahead (small w) = 0
ahead (raw w) = 0
ahead (sized w) = w

-- a payload begins one behind its place: an element's place is counted from the code before it
unfoldable pub leaf : Scalar → (kind place : ℕ) → List ℕ → Answer (Tree × List ℕ)
leaf s k p r = do
  (n, t, z) ← plain s p r
  need (fair k n) payload_bad (at p)
  need (clean k t) payload_bad (byte (p + 1 + ahead s + good_length k t))
  got (node k n t none, z)

-- so many values, one after the other, each read by f
unfoldable pub many : (ℕ → List ℕ → Answer (Tree × List ℕ)) → (count place : ℕ) → List ℕ → Answer (Trees × List ℕ)
many f zero p r = got (none, r)
many f (suc n) p r = do
  (v, s) ← f p r
  (vs, z) ← many f n (p + (length r - length s)) s
  got (more v vs, z)

-- a body is used up
unfoldable pub done : (place : ℕ) → List ℕ → Answer (Unit {0})
done p [] = got tt
done p (b ∷ r) = refuse size_amiss (at p)

-- count, body and rest behind a code with fields of w bytes
unfoldable pub fields : (place width : ℕ) → List ℕ → Answer (ℕ × List ℕ × List ℕ)
fields p w r = do
  (s, b) ← cut p w r
  need (leb w (unbe s)) size_amiss (at p)
  (x, z) ← cut p (unbe s) b
  (c, body) ← cut p w x
  got (unbe c, body, z)

-- a refusal in the contents of an array has the array's place, but for a byte of text
unfoldable pub held : {A : Type 0} → (place : ℕ) → Answer A → Answer A
held p (got a) = got a
held p (refuse x (at q)) = refuse x (at p)
held p (refuse x (byte q)) = refuse x (byte q)

-- so many payloads of the code e, which stands at place q, and the elements' kind; f reads behind a code
unfoldable pub items : (ℕ → ℕ → List ℕ → Answer (Tree × List ℕ)) → (place count code : ℕ) → List ℕ → Answer (ℕ × Trees)
items f q n e r = do
  need (is_code (layout_of e)) code_unknown (at q)
  need (element (layout_of e)) element_unfit (at q)
  (vs, z) ← many (f e) n q r
  done q z
  got (kind_of e, vs)

-- the body of an array whose elements may take l levels
unfoldable pub inside : (ℕ → ℕ → List ℕ → Answer (Tree × List ℕ)) → (levels place count : ℕ) → List ℕ → Answer (ℕ × Trees)
inside f l q zero [] = got (0, none)
inside f l q zero (e ∷ r) = items f q 0 e r
inside f zero q (suc n) r = refuse too_deep (at q)
inside f (suc l) q (suc n) [] = refuse input_short (at q)
inside f (suc l) q (suc n) (e ∷ r) = items f q (suc n) e r

-- a code at place p, and what f reads behind it, where l levels are left
unfoldable pub coded : (ℕ → ℕ → List ℕ → Answer (Tree × List ℕ)) → (levels place : ℕ) → List ℕ → Answer (Tree × List ℕ)
coded f zero p r = refuse too_deep (at p)
coded f (suc l) p [] = refuse input_short (at p)
coded f (suc l) p (c ∷ r) = f c p r

-- behind a code of kind k, which stands at place p, by its layout; f reads behind the codes one level below, of which l are left
unfoldable pub behind : (ℕ → ℕ → List ℕ → Answer (Tree × List ℕ)) → (levels kind place : ℕ) → List ℕ → Layout → Answer (Tree × List ℕ)
behind f l k p r unknown = refuse code_unknown (at p)
behind f l k p r described = do
  (vs, z) ← many (coded f l) 2 (p + 1) r
  got (node k 2 [] vs, z)
behind f l k p r (scalar s) = leaf s k p r
behind f l k p r (compound w) = do
  (n, body, z) ← fields p w r
  need (paired k n) size_amiss (at p)
  (vs, s) ← many (coded f l) n (p + 1 + w + w) body
  done p s
  got (node k n [] vs, z)
behind f l k p r (array w) = do
  (n, body, z) ← fields p w r
  (e, vs) ← held p (inside f l (p + 1 + w + w) n body)
  got (node k (named n e) [] vs, z)

-- what stands behind the code c, at place p, of a value that may take so many levels
unfoldable pub payload : (levels code place : ℕ) → List ℕ → Answer (Tree × List ℕ)
payload zero c p r = refuse too_deep (at p)
payload (suc l) c p r = behind (λ e q s. payload l e q s) l (kind_of c) p r (layout_of c)

-- a value of at most so many levels, in a room that begins at place p
unfoldable pub value : (levels place : ℕ) → List ℕ → Answer (Tree × List ℕ)
value l p r = coded (λ e q s. payload l e q s) l p r

-- an answer as the caller is told it: a place is an offset in the input
unfoldable pub settled : {A : Type 0} → Answer A → Answer A
settled (got a) = got a
settled (refuse x p) = refuse x (at (offset p))

-- the value at the beginning of an input, and what is behind it
unfoldable pub front : (levels : ℕ) → List ℕ → Answer (Tree × List ℕ)
front l r = settled (value l 0 r)
