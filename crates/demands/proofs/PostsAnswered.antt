-- D2 and L2 over the lookups' own promises, inner and exported: each post of an accepted cell is answered as what its word says, one height in
-- range or void, by its number and by a position, and 0 where 8000 hex stands; and the headers and the post's column alone decide.
use Rattle.std.specs.Prelude.{Some, Ok}
use Prim.Native.Nat.{ℕ, ◌/◌, ◌%◌, ◌<◌, ◌≤◌}
use mathlib.Core.Path.{◌≡◌, sym, ap, subst, ◌∙◌}
use mathlib.Core.Bool.{true}
use mathlib.Core.List.{List}
use lib.IntN.{ℤ, pos}
use lib.ListN.{length, take}
use contract.Lifetimes as L
use borrow.Fn.Kinds as K
use Rattle.answers.specs.Told.{Told, told}
use Rattle.answers.specs.Told as telling
use Rattle.answers.proofs.Injective.{told_injective}
use Rattle.years.specs.declared.Year.{Year}
use Rattle.years.specs.Years.{Names, under}
use Rattle.host_answers.specs.Packed.{packed}
use Rattle.host_answers.specs.Apart.{told_in}
use Rattle.layout.specs.Grid.{header_bytes}
use Rattle.posts.specs.Words.{post_of, negative_zero}
use Rattle.posts.specs.declared.Post.{Post}
use Rattle.posts.specs.declared.Post.TheVariants.{Height}
use Rattle.posts.proofs.PostWords.{negative_zero_lem}
use Rattle.posts.proofs.Readings.{Reads}
use Rattle.headers.specs.Judged.{facts_in, voids_allowed}
use Rattle.headers.proofs.Exactly.{follows_good}
use Rattle.columns.specs.Column.{word_in}
use Rattle.cells.specs.Cell.{column_at, Cell}
use Rattle.cells.proofs.ColumnPlaces.{column_whole}
use Rattle.intake.proofs.CellExactly.{post_reads_lem}
use Rattle.lookup.specs.Lookup.{looked_up}
use Rattle.lookup.proofs.LookupLaws.{post_found, same_post}
use Rattle.lookup.proofs.ReachedExactly.{end_in, good, given}
use Rattle.position.specs.Position.{nearest, said_at, read_at, located}
use Rattle.position.proofs.NearestPost.{AsNear}
use Rattle.position.proofs.PositionExactly.{north_of, east_of, nearest_answered}
use Rattle.cells.proofs.MadeCells.{cell_facts}
use Rattle.lookup.proofs.look_up.Reads as look_up
use Rattle.lookup.proofs.look_up.Kinds as look-up-kinds
use Rattle.position.proofs.locate.Reads as locate
use Rattle.position.proofs.locate.Kinds as locate-kinds
use Rattle.dted.proofs.cell_calls.dted_post.Reads as host-post
use Rattle.dted.proofs.cell_calls.dted_post.Kinds as host-post-kinds
use Rattle.dted.proofs.cell_calls.dted_position.Reads as host-position
use Rattle.dted.proofs.cell_calls.dted_position.Kinds as host-position-kinds
use Rattle.demands.proofs.NamedYears.{post_named, position_named, host_post_named}
use Rattle.demands.proofs.HostTold.{post_told_in, position_told_in}

-- the word that stands there, and what it says
abbrev pub stored_at : List ℕ → ℕ → ℕ → ℕ
stored_at l c p = word_in (column_at l (facts_in l).grid c) p

abbrev pub post_in : List ℕ → ℕ → ℕ → Post
post_in l c p = post_of (stored_at l c p)

-- that is told, and it is a height in range, or void where voids are allowed
pub record Answered (year : Year) (l : List ℕ) (c p : ℕ) (t : Told) : Type 0 where
  pub reads : Reads (voids_allowed year (facts_in l)) (post_in l c p)
  pub said : t ≡ told telling.post (Ok (post_in l c p))
  pub zero : stored_at l c p ≡ negative_zero → t ≡ telling.height (pos 0)

-- so for the post nearest a position that lies so far north and east of the cell's corner
pub record AnsweredNear (year : Year) (l : List ℕ) (north east : ℕ) (t : Told) : Type 0 where
  pub column : ℕ
  pub number : ℕ
  pub on_grid : (column < (facts_in l).grid.columns) × (number < (facts_in l).grid.posts)
  pub reads : Reads (voids_allowed year (facts_in l)) (post_in l column number)
  pub said : t ≡ said_at column number (Ok (post_in l column number))
  pub zero : stored_at l column number ≡ negative_zero → t ≡ telling.height_at column number (pos 0)
  pub by_column : (j : ℕ) → AsNear east (facts_in l).grid.interval.longitude column j
  pub by_number : (j : ℕ) → AsNear north (facts_in l).grid.interval.latitude number j

zero_read : (l : List ℕ) (c p : ℕ) → stored_at l c p ≡ negative_zero → post_in l c p ≡ Height (pos 0)
zero_read l c p e = ap post_of e ∙ (negative_zero_lem true).1

post_answered_so : (year : Year) (l : List ℕ) → Cell year l → (c p : ℕ) → c < (facts_in l).grid.columns → p < (facts_in l).grid.posts
    → Answered year l c p (looked_up year l c p)
post_answered_so year l cell c p hc hp =
    let found = post_found year l cell c p hc hp in
    record {
      reads = post_reads_lem year l cell c p hc hp;
      said = found;
      zero = λ e. found ∙ ap (λ (x : Post). told telling.post (Ok x)) (zero_read l c p e);
    }

position_answered_so : (year : Year) (l : List ℕ) → Cell year l → (latitude longitude : ℤ) (north east : ℕ)
    → north_of (facts_in l) latitude ≡ Some north → east_of (facts_in l) longitude ≡ Some east → AnsweredNear year l north east (located year l latitude longitude)
position_answered_so year l cell latitude longitude north east n e =
    let f = facts_in l in
    let dx = f.grid.interval.longitude in
    let dy = f.grid.interval.latitude in
    let c = nearest dx (east / dx) (east % dx) in
    let p = nearest dy (north / dy) (north % dy) in
    let near = nearest_answered year l latitude longitude f (follows_good l cell.headers) north east n e in
    let whole = column_whole l f.grid c (cell_facts l cell).grid cell.framed.long near.on_columns in
    let there =
    given year l c p _ (good (record { headers = cell.headers; column = near.on_columns; post = near.on_posts }) whole (cell.framed.columns c near.on_columns))
    in
    let found = near.answered ∙ ap (read_at c p) there in
    record {
      column = c;
      number = p;
      on_grid = (near.on_columns, near.on_posts);
      reads = post_reads_lem year l cell c p near.on_columns near.on_posts;
      said = found;
      zero = λ z. found ∙ ap (λ (x : Post). said_at c p (Ok x)) (zero_read l c p z);
      by_column = near.by_column;
      by_number = near.by_post;
    }

-- two cells with the same headers and the same column c, each holding it whole
pub record Alike (l m : List ℕ) (c : ℕ) : Type 0 where
  pub long : (header_bytes ≤ length l) × (header_bytes ≤ length m)
  pub headers : take header_bytes l ≡ take header_bytes m
  pub whole : (end_in l c ≤ length l) × (end_in l c ≤ length m)
  pub column : column_at l (facts_in l).grid c ≡ column_at m (facts_in l).grid c

alike_told : (year : Year) (l m : List ℕ) (c p : ℕ) → Alike l m c → looked_up year l c p ≡ looked_up year m c p
alike_told year l m c p k = same_post year l m c p k.long.0 k.long.1 k.headers k.whole.0 k.whole.1 k.column

-- under whatever year is named
alike_under : (n : ℕ) (l m : List ℕ) (c p : ℕ) → Alike l m c
    → under n (λ (year : Year). looked_up year l c p) ≡ under n (λ (year : Year). looked_up year m c p)
alike_under n l m c p k = λ i. under n (λ (year : Year). alike_told year l m c p k i)

-- lookup by column and number
pub post_answered : (κs : L.Lfts 1) (a : K.Dens κs look-up-kinds.ps) (r : _) (s : _) → look_up.Post κs a r s → (year : Year) → Names a.0 year → Cell year a.1.0.now
    → a.1.1.0 < (facts_in a.1.0.now).grid.columns → a.1.1.1.0 < (facts_in a.1.0.now).grid.posts
    → Answered year a.1.0.now a.1.1.0 a.1.1.1.0 (told telling.post r)
post_answered κs a r s kept year names cell hc hp =
    subst (Answered year a.1.0.now a.1.1.0 a.1.1.1.0) (sym (post_named κs a r s kept year names)) (post_answered_so year a.1.0.now cell a.1.1.0 a.1.1.1.0 hc hp)

pub post_local : (κs κs' : L.Lfts 1) (a : K.Dens κs look-up-kinds.ps) (b : K.Dens κs' look-up-kinds.ps) (r q : _) (s t : _)
    → look_up.Post κs a r s → look_up.Post κs' b q t → a.0 ≡ b.0 → a.1.1.0 ≡ b.1.1.0 → a.1.1.1.0 ≡ b.1.1.1.0
    → Alike a.1.0.now b.1.0.now a.1.1.0 → r ≡ q
post_local κs κs' a b r q s t kept kept' n c p alike =
    told_injective telling.post r q
    (kept ∙ alike_under a.0 a.1.0.now b.1.0.now a.1.1.0 a.1.1.1.0 alike
    ∙ (λ k. under (n k) (λ (year : Year). looked_up year b.1.0.now (c k) (p k))) ∙ sym kept')

-- lookup of a position
pub position_answered : (κs : L.Lfts 1) (a : K.Dens κs locate-kinds.ps) (r : _) (s : _) → locate.Post κs a r s → (year : Year) → Names a.0 year
    → Cell year a.1.0.now → (north east : ℕ)
    → north_of (facts_in a.1.0.now) a.1.1.0 ≡ Some north → east_of (facts_in a.1.0.now) a.1.1.1.0 ≡ Some east
    → AnsweredNear year a.1.0.now north east (told telling.position r)
position_answered κs a r s kept year names cell north east n e =
    subst (AnsweredNear year a.1.0.now north east) (sym (position_named κs a r s kept year names)) (position_answered_so year a.1.0.now cell a.1.1.0 a.1.1.1.0 north east n e)

-- the exported calls: what their answers say, taken apart
pub host_post_answered : (κs : L.Lfts 1) (a : K.Dens κs host-post-kinds.ps) (r : _) (s : _) → host-post.Post κs a r s → (year : Year) → Names a.0 year → Cell year a.1.0.now
    → a.1.1.0 < (facts_in a.1.0.now).grid.columns → a.1.1.1.0 < (facts_in a.1.0.now).grid.posts
    → Answered year a.1.0.now a.1.1.0 a.1.1.1.0 (told_in r)
host_post_answered κs a r s kept year names cell hc hp =
    subst (Answered year a.1.0.now a.1.1.0 a.1.1.1.0) (sym (post_told_in κs a r s kept year names))
    (post_answered_so year a.1.0.now cell a.1.1.0 a.1.1.1.0 hc hp)

-- where 8000 hex stands the answer's bits are those of height 0
pub host_post_zero : (κs : L.Lfts 1) (a : K.Dens κs host-post-kinds.ps) (r : _) (s : _) → host-post.Post κs a r s → (year : Year) → Names a.0 year → Cell year a.1.0.now
    → a.1.1.0 < (facts_in a.1.0.now).grid.columns → a.1.1.1.0 < (facts_in a.1.0.now).grid.posts
    → stored_at a.1.0.now a.1.1.0 a.1.1.1.0 ≡ negative_zero → r ≡ 0x0002000000000000
unfolding packed
host_post_zero κs a r s kept year names cell hc hp e = host_post_named κs a r s kept year names
    ∙ ap packed ((post_answered_so year a.1.0.now cell a.1.1.0 a.1.1.1.0 hc hp).zero e)

pub host_post_local : (κs κs' : L.Lfts 1) (a : K.Dens κs host-post-kinds.ps) (b : K.Dens κs' host-post-kinds.ps) (r q : _) (s t : _)
    → host-post.Post κs a r s → host-post.Post κs' b q t → a.0 ≡ b.0 → a.1.1.0 ≡ b.1.1.0 → a.1.1.1.0 ≡ b.1.1.1.0
    → Alike a.1.0.now b.1.0.now a.1.1.0 → r ≡ q
host_post_local κs κs' a b r q s t kept kept' n c p alike =
    kept ∙ ap packed (alike_under a.0 a.1.0.now b.1.0.now a.1.1.0 a.1.1.1.0 alike)
    ∙ (λ k. packed (under (n k) (λ (year : Year). looked_up year b.1.0.now (c k) (p k)))) ∙ sym kept'

pub host_position_answered : (κs : L.Lfts 1) (a : K.Dens κs host-position-kinds.ps) (r : _) (s : _) → host-position.Post κs a r s → (year : Year) → Names a.0 year
    → Cell year a.1.0.now
    → (north east : ℕ) → north_of (facts_in a.1.0.now) a.1.1.0 ≡ Some north → east_of (facts_in a.1.0.now) a.1.1.1.0 ≡ Some east
    → AnsweredNear year a.1.0.now north east (told_in r)
host_position_answered κs a r s kept year names cell north east n e =
    subst (AnsweredNear year a.1.0.now north east) (sym (position_told_in κs a r s kept year names))
    (position_answered_so year a.1.0.now cell a.1.1.0 a.1.1.1.0 north east n e)
