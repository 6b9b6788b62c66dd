-- Good text (docs/FORMAT.md, 2.4 and 4.6) as RFC 3629, section 4, and Part 1, 1.6.21, state it: relations, with no scanning. What scans is in Text.antt;
-- that the two agree, on every text and on the place of its first fault, is `utf8_checked` and `ascii_checked` of Sequences.antt of `laws`.
use Rattle.std.specs.Prelude.{ℕ, ◌≤◌, ◌<◌, ◌≡◌, List, [], ◌∷◌, ◌++◌, length}

-- %xLO-HI
abbrev pub In : (lo hi byte : ℕ) → Type 0
In lo hi b = (lo ≤ b) × (b ≤ hi)

-- UTF8-tail = %x80-BF
abbrev pub Tail : ℕ → Type 0
Tail b = In 0x80 0xbf b

-- UTF8-char = UTF8-1 / UTF8-2 / UTF8-3 / UTF8-4, with a constructor for each of the nine rows
pub data Utf8Char : List ℕ → Type 0 where
  -- UTF8-1 = %x00-7F
  utf8_1 : {a : ℕ} → In 0x00 0x7f a → Utf8Char (a ∷ [])
  -- UTF8-2 = %xC2-DF UTF8-tail
  utf8_2 : {a b : ℕ} → In 0xc2 0xdf a → Tail b → Utf8Char (a ∷ b ∷ [])
  -- UTF8-3 = %xE0 %xA0-BF UTF8-tail
  utf8_3_e0 : {a b c : ℕ} → In 0xe0 0xe0 a → In 0xa0 0xbf b → Tail c → Utf8Char (a ∷ b ∷ c ∷ [])
  -- / %xE1-EC 2( UTF8-tail )
  utf8_3_e1 : {a b c : ℕ} → In 0xe1 0xec a → Tail b → Tail c → Utf8Char (a ∷ b ∷ c ∷ [])
  -- / %xED %x80-9F UTF8-tail
  utf8_3_ed : {a b c : ℕ} → In 0xed 0xed a → In 0x80 0x9f b → Tail c → Utf8Char (a ∷ b ∷ c ∷ [])
  -- / %xEE-EF 2( UTF8-tail )
  utf8_3_ee : {a b c : ℕ} → In 0xee 0xef a → Tail b → Tail c → Utf8Char (a ∷ b ∷ c ∷ [])
  -- UTF8-4 = %xF0 %x90-BF 2( UTF8-tail )
  utf8_4_f0 : {a b c d : ℕ} → In 0xf0 0xf0 a → In 0x90 0xbf b → Tail c → Tail d → Utf8Char (a ∷ b ∷ c ∷ d ∷ [])
  -- / %xF1-F3 3( UTF8-tail )
  utf8_4_f1 : {a b c d : ℕ} → In 0xf1 0xf3 a → Tail b → Tail c → Tail d → Utf8Char (a ∷ b ∷ c ∷ d ∷ [])
  -- / %xF4 %x80-8F 2( UTF8-tail )
  utf8_4_f4 : {a b c d : ℕ} → In 0xf4 0xf4 a → In 0x80 0x8f b → Tail c → Tail d → Utf8Char (a ∷ b ∷ c ∷ d ∷ [])

-- a character of a symbol: UTF8-1 alone
pub data AsciiChar : List ℕ → Type 0 where
  ascii_1 : {a : ℕ} → In 0x00 0x7f a → AsciiChar (a ∷ [])

-- UTF8-octets = *( UTF8-char ): characters one after another, and nothing else
pub data Run (P : List ℕ → Type 0) : List ℕ → Type 0 where
  stop : Run P []
  char : {c bs : List ℕ} → P c → Run P bs → Run P (c ++ bs)

-- The place of the first fault: of the first byte at which, after characters from the start, no further one begins
pub record FirstFault (P : List ℕ → Type 0) (bytes : List ℕ) (place : ℕ) : Type 0 where
  pub before : List ℕ
  pub after : List ℕ
  pub split : bytes ≡ before ++ after
  pub good : Run P before
  pub is_place : length before ≡ place
  pub some : 0 < length after
  pub none : (c z : List ℕ) → P c → after ≡ c ++ z → ⊥

-- What a row of that kind asks of its text: strings are UTF-8, symbols ASCII
pub data GoodText : (kind : ℕ) → (text : List ℕ) → Type 0 where
  string : {t : List ℕ} → Run Utf8Char t → GoodText 0xb1 t
  symbol : {t : List ℕ} → Run AsciiChar t → GoodText 0xb3 t
  other : {k : ℕ} {t : List ℕ} → ¬ (k ≡ 0xb1) → ¬ (k ≡ 0xb3) → GoodText k t

-- Text that is not good, and the place of its faulty byte
pub data BadText : (kind : ℕ) → (text : List ℕ) → (place : ℕ) → Type 0 where
  bad_string : {t : List ℕ} {p : ℕ} → FirstFault Utf8Char t p → BadText 0xb1 t p
  bad_symbol : {t : List ℕ} {p : ℕ} → FirstFault AsciiChar t p → BadText 0xb3 t p
