-- `told` is injective: what an answer tells gives the answer back, so a promise about what is told settles the answer.
use Rattle.std.specs.Prelude.{Ok, Err}
use Rattle.posts.specs.declared.Post.TheVariants as reads
use Prim.Native.Nat.{ℕ, ◌<◌}
use mathlib.Core.Path.{◌≡◌, refl, sym, ap, ◌∙◌}
use mathlib.Core.List.{List, [], ◌∷◌, ◌++◌}
use lib.Dec.{eqb, lit<}
use lib.IntN.{ℤ}
use lib.ListN.{get_or, replicate}
use Rattle.octets.specs.Choice.{pick}
use Rattle.answers.specs.Told.{Told, refused, said, value_at, count_at, numbered, number_told, place_told, Kind, intake, post, position, act, Answer, told}
use Rattle.answers.specs.declared.Refusal.{Refusal}
use Rattle.answers.specs.declared.Refusal.TheVariants as because
use Rattle.answers.specs.declared.Located.{Located}
use Rattle.answers.specs.declared.Verdict.TheVariants as verdict
use Rattle.posts.specs.declared.Post.{Post}

-- the refusals in the order of their numbers, each at this place; a number that none has is OffGrid's here
abbrev refusals : ℕ → List Refusal
refusals place =
    because.OffGrid
    ∷ because.Short place
    ∷ because.OffGrid
    ∷ because.Cut place
    ∷ because.Preamble place
    ∷ because.Checksum place
    ∷ because.Word place
    ∷ because.Surplus place
    ∷ because.OffGrid
    ∷ because.Item place
    ∷ because.GridLength place
    ∷ because.Height place
    ∷ because.Room place
    ∷ (replicate 4 because.OffGrid
    ++ (because.Year place
    ∷ (replicate 3 because.OffGrid
    ++ (because.FieldImpossible place
    ∷ because.FieldContradicts place
    ∷ because.FieldOffTable place
    ∷ []))))

-- a refusal as an answer of each kind
abbrev refused_as : (k : Kind) → Refusal → Answer k
refused_as intake r = Err r
refused_as post r = Err r
refused_as position r = Err r
refused_as act r = Err r

-- the answer of a kind that says these values under this tag; a kind's last answer stands for every other tag
abbrev said_as : (k : Kind) → ℕ → List ℤ → Answer k
said_as intake tag values = Ok (pick (eqb tag 0) verdict.More (verdict.Accepted (count_at values 0) (count_at values 1) (count_at values 2)))
said_as post tag values = Ok (pick (eqb tag 2) (reads.Height (value_at values 0)) reads.Void)
said_as position tag values =
    Ok (record {
      column = count_at values 0;
      post = count_at values 1;
      reads = pick (eqb tag 4) (reads.Height (value_at values 2)) reads.Void;
    })
said_as act tag values = Ok tt

-- the answer of a kind that was told
abbrev answer_of : Told → (k : Kind) → Answer k
answer_of (refused number place) k = refused_as k (get_or (refusals place) number because.OffGrid)
answer_of (said tag values) k = said_as k tag values

-- a refusal tells a number of the list and a place, and nothing else; by these it is found in the list
shown : (r : Refusal)
    → (numbered r ≡ refused (number_told (numbered r)) (place_told (numbered r)))
    × ((get_or (refusals (place_told (numbered r))) (number_told (numbered r)) because.OffGrid ≡ r)
    × ((0 < number_told (numbered r)) × (number_told (numbered r) < 256)))
shown (because.Short n) = (refl, (refl, (lit< tt, lit< tt)))
shown (because.Cut n) = (refl, (refl, (lit< tt, lit< tt)))
shown (because.Preamble n) = (refl, (refl, (lit< tt, lit< tt)))
shown (because.Checksum n) = (refl, (refl, (lit< tt, lit< tt)))
shown (because.Word n) = (refl, (refl, (lit< tt, lit< tt)))
shown (because.Surplus n) = (refl, (refl, (lit< tt, lit< tt)))
shown because.OffGrid = (refl, (refl, (lit< tt, lit< tt)))
shown (because.Item n) = (refl, (refl, (lit< tt, lit< tt)))
shown (because.GridLength n) = (refl, (refl, (lit< tt, lit< tt)))
shown (because.Height n) = (refl, (refl, (lit< tt, lit< tt)))
shown (because.Room n) = (refl, (refl, (lit< tt, lit< tt)))
shown (because.Year n) = (refl, (refl, (lit< tt, lit< tt)))
shown (because.FieldImpossible n) = (refl, (refl, (lit< tt, lit< tt)))
shown (because.FieldContradicts n) = (refl, (refl, (lit< tt, lit< tt)))
shown (because.FieldOffTable n) = (refl, (refl, (lit< tt, lit< tt)))

pub refusal_told : (r : Refusal) → numbered r ≡ refused (number_told (numbered r)) (place_told (numbered r))
refusal_told r = (shown r).0

-- every refusal has a number of 8 bits that is not 0
pub number_ranged : (r : Refusal) → (0 < number_told (numbered r)) × (number_told (numbered r) < 256)
number_ranged r = (shown r).1.1

refused_back : (k : Kind) (r : Refusal) → answer_of (numbered r) k ≡ refused_as k r
refused_back k r = ap (λ (t : Told). answer_of t k) (refusal_told r) ∙ ap (refused_as k) (shown r).1.0

located_back : (found : Located) (p : Post) → found.reads ≡ p → answer_of (told position (Ok found)) position ≡ Ok found
located_back found (reads.Height z) e = rw e refl
located_back found reads.Void e = rw e refl

told_back : (k : Kind) (a : Answer k) → answer_of (told k a) k ≡ a
told_back intake (Ok verdict.More) = refl
told_back intake (Ok (verdict.Accepted level columns posts)) = refl
told_back intake (Err r) = refused_back intake r
told_back post (Ok (reads.Height z)) = refl
told_back post (Ok reads.Void) = refl
told_back post (Err r) = refused_back post r
told_back position (Ok found) = located_back found found.reads refl
told_back position (Err r) = refused_back position r
told_back act (Ok tt) = refl
told_back act (Err r) = refused_back act r

-- N13: two answers of a call that tell the same are the same
pub told_injective : (k : Kind) (a b : Answer k) → told k a ≡ told k b → a ≡ b
told_injective k a b e = sym (told_back k a) ∙ ap (λ (t : Told). answer_of t k) e ∙ told_back k b

-- no two refusals have the same number and place
pub numbered_injective : (r s : Refusal) → numbered r ≡ numbered s → r ≡ s
numbered_injective r s e =
    let same : Err r ≡ Err s = told_injective act (Err r) (Err s) e in
    cc
