-- Columns and heights, through the words: what was written is good and says its heights, and plain words are the writer's.
use Rattle.std.proofs.Common.{◌≡◌, ℕ, ◌<◌, ◌≤◌, Bool, true, List, map, length, get_or, ℤ, pos, sym, ap, ◌∙◌, subst, arith, ext_get_or}
use lib.ListN.{length-map, get_or-map}
use Rattle.octets.proofs.ListLaws.{mapped}
use Rattle.octets.proofs.JoinedLaws.{length_listed, get_or_listed}
use Rattle.layout.specs.Levels.{column_bytes}
use Rattle.posts.specs.Heights.{word_of, said_by, height_allowed}
use Rattle.posts.proofs.RoundTrip.{word_allowed_lem, word_back, never_negative_zero, height_back, form_allowed}
use Rattle.columns.specs.Column.{words_of, column_of, word_in, words_in, heights_in, GoodColumn, Allowed, Plain}
use Rattle.columns.proofs.ColumnWords.{length_column, words_good}

-- each height may be held where voids are allowed or not
abbrev pub Held : Bool → List ℤ → Type 0
Held voids zs = (i : ℕ) → i < length zs → height_allowed voids (get_or zs i (pos 0)) ≡ true

module _ (s : List ℕ) (posts : ℕ) where
  pub length_heights : length (heights_in s posts) ≡ posts
  length_heights = length-map (words_in s posts) said_by ∙ length_listed (word_in s) posts

  pub height_at_lem : (i : ℕ) → i < posts → get_or (heights_in s posts) i (pos 0) ≡ said_by (word_in s i)
  height_at_lem i h =
      mapped said_by (words_in s posts) i 0 (pos 0) (omega (arith, length_listed (word_in s) posts)) ∙ ap said_by (get_or_listed (word_in s) posts i 0 h)

-- the words of heights: each may be held, none is 8000 hex, and each says its height
pub words_allowed_lem : (voids : Bool) (zs : List ℤ) → Held voids zs → Allowed voids (words_of zs)
words_allowed_lem voids zs held i h =
    let u : i < length zs = omega (arith, length-map zs word_of) in
    rw (mapped word_of zs i (pos 0) 0 u) (word_allowed_lem voids (get_or zs i (pos 0)) (held i u))

pub words_plain : (voids : Bool) (zs : List ℤ) → Held voids zs → Plain (words_of zs)
words_plain voids zs held i h e =
    let u : i < length zs = omega (arith, length-map zs word_of) in
    never_negative_zero voids (get_or zs i (pos 0)) (held i u) (sym (mapped word_of zs i (pos 0) 0 u) ∙ e)

-- each element changed there and back
there_back : {A B : Type 0} (f : A → B) (g : B → A) (l : List A) (d : A) → ((i : ℕ) → i < length l → g (f (get_or l i d)) ≡ get_or l i d) → map g (map f l) ≡ l
there_back f g l d same =
    let n = length-map l f in
    ext_get_or d (map g (map f l)) l (length-map (map f l) g ∙ n)
    (λ i h.
    let u : i < length l = omega (arith, length-map (map f l) g) in
    mapped g (map f l) i (f d) d (omega arith) ∙ ap g (get_or-map f l i d) ∙ same i u)

pub said_back : (voids : Bool) (zs : List ℤ) → Held voids zs → map said_by (words_of zs) ≡ zs
said_back voids zs held = there_back word_of said_by zs (pos 0) (λ i h. height_back voids (get_or zs i (pos 0)) (held i h))

-- and the heights of words may be held
pub said_held : (voids : Bool) (ws : List ℕ) → Allowed voids ws → Held voids (map said_by ws)
said_held voids ws allowed i h =
    let u : i < length ws = omega (arith, length-map ws said_by) in
    rw (mapped said_by ws i 0 (pos 0) u) (form_allowed voids (get_or ws i 0) (allowed i u))

-- a column of heights
pub length_written : (k : ℕ) (zs : List ℤ) → length (column_of k zs) ≡ column_bytes (length zs)
length_written k zs = length_column k (words_of zs) ∙ omega (arith, length-map zs word_of)

module _ (k posts : ℕ) (voids : Bool) (zs : List ℤ) (long : length zs ≡ posts) (held : Held voids zs) where
  pub written_good : k < 65536 → posts ≤ 8000000 → GoodColumn (column_of k zs) k posts voids
  written_good small few = words_good k posts voids (words_of zs) small few (length-map zs word_of ∙ long) (words_allowed_lem voids zs held)

-- P6: plain words that a cell may hold are the writer's words of what they say, and no others are
pub words_written : (voids : Bool) (ws : List ℕ) → Allowed voids ws → Plain ws → words_of (map said_by ws) ≡ ws
words_written voids ws allowed plain = there_back said_by word_of ws 0 (λ i h. word_back voids (get_or ws i 0) (allowed i h) (plain i h))

pub only_plain : (voids : Bool) (ws : List ℕ) → Allowed voids ws → words_of (map said_by ws) ≡ ws → Plain ws
only_plain voids ws allowed same = subst Plain same (words_plain voids (map said_by ws) (said_held voids ws allowed))
