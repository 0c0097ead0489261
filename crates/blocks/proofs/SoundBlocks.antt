-- Blocks that are sound by themselves: what they are, and that every block of a file that the reader takes is one.
use Rattle.std.specs.Prelude.{Result, Ok, Err}
use mathlib.Core.Path.{◌≡◌, refl, ap, ◌∙◌}
use mathlib.Core.Bool.{Bool, true, false, cond}
use mathlib.Core.List.{List, [], ◌∷◌}
use Prim.Native.Nat.{ℕ, ◌+◌, ◌/◌, ◌≤◌}
use native.Mathlib.Omega.{arith}
use lib.ListN.{length}
use borrow.Author.Tests.{eqb-true}
use Rattle.records.specs.Chunks.{records_of}
use Rattle.records.specs.Lists.{All}
use Rattle.records.specs.Order.{Check, ask, first_of, ask_each}
use Rattle.records.specs.Tables.{good_record, table_number, field_checks, fields_checks}
use Rattle.records.specs.declared.refusals.Refusal.{Refusal}
use Rattle.records.specs.declared.tables.Kind.{Kind}
use Rattle.records.specs.declared.tables.Kind.TheVariants.{Holdings, Placement, Claims}
use Rattle.records.proofs.ChunkLaws.{chunks_whole}
use Rattle.records.proofs.ListLaws.{all_append, all_map}
use Rattle.records.proofs.PassLaws.{Pass, clear, unclear, pass_left, pass_right}
use Rattle.blocks.specs.Forms.{named}
use Rattle.blocks.specs.Block.{origin_of, sums_agree, shaped}
use Rattle.blocks.specs.File.{records_as, blocks_of, tables_in, origin_in, frame_in, block_checks, blocks_checks, fields_of}
use Rattle.blocks.specs.Alone.{own_tables, alone_checks, alone_answer, alone_call}
use Rattle.blocks.specs.Steps.Bounds.{Sized}
use Rattle.blocks.specs.RoundTrips.{Reads}
use Rattle.blocks.specs.Demands.{ReadAreSound}
use Rattle.blocks.specs.declared.forms.Origin.{Origin}
use Rattle.blocks.specs.declared.forms.Frame.{Frame}
use Rattle.blocks.proofs.BlockLaws.{account_is, origin_is}
use Rattle.blocks.proofs.FileLaws.{Passed, block_passed, whole_file_lem}
use Rattle.blocks.proofs.GoodBlocks.{read_both, read_good}
use Rattle.blocks.proofs.AloneLaws.{shaped_sized, alone_sound}
use Rattle.blocks.proofs.GoodFields.{GoodRecords, pass_good, good_pass, table_of_lem, own_records, good_parts}

-- ---- no refusal has number 0

abbrev Numbered : List Check → Type 0
Numbered cs = All (λ c. 1 ≤ c.refusal.number) cs

first_numbered : (cs : List Check) → Numbered cs → (r : Refusal) → first_of cs ≡ Err r → 1 ≤ r.number
unfolding first_of
first_numbered [] a r e = absurd (let z : ◌≡◌ {A = ℕ} 0 1 = cc in omega arith)
first_numbered (c ∷ cs) a r e = go c.holds e (first_numbered cs a.1 r)
  where
    go : (b : Bool) → cond b (first_of cs) (Err c.refusal) ≡ Err r → (first_of cs ≡ Err r → 1 ≤ r.number) → 1 ≤ r.number
    go true q f = f q
    go false q f = let z : c.refusal.number ≡ r.number = cc in omega (arith, a.0, z)

each_numbered : {A : Type 0} (good : A → Bool) (table i : ℕ) (l : List A) → Numbered (ask_each good 4 table i l)
unfolding ask_each
each_numbered good table i [] = tt
each_numbered good table i (x ∷ l) = (omega arith, each_numbered good table (i + 1) l)

alone_numbered : (b : List ℕ) → Numbered (alone_checks b)
unfolding alone_checks fields_checks field_checks
alone_numbered b =
    let t = own_tables b in
    let one : (kind : Kind) (x : List ℕ) → Numbered (ask_each (good_record kind) 4 (table_number kind) 0 (records_of x)) =
    λ kind x. each_numbered (good_record kind) (table_number kind) 0 (records_of x) in
    let numbered : Check → Type 0 = λ c. 1 ≤ c.refusal.number in
    let fields : Numbered (fields_of t) =
    all_append numbered (field_checks Holdings t.holdings) _ (one Holdings t.holdings)
    (all_append numbered (field_checks Placement t.placement) _ (one Placement t.placement) (one Claims t.claims)) in
    (omega arith, (omega arith, (omega arith, all_append numbered (fields_of t) _ fields (omega arith, tt))))

-- what is not sound by itself has a number
pub refused_numbered : (b : List ℕ) (r : Refusal) → alone_call b ≡ Err r → 1 ≤ r.number
unfolding alone_call
refused_numbered b r e = go (first_of (alone_checks b)) refl e
  where
    go : (f : Result Unit Refusal) → first_of (alone_checks b) ≡ f → alone_answer f (origin_of b) ≡ Err r → 1 ≤ r.number
    go (Ok _) q z = absurd (let y : ◌≡◌ {A = ℕ} 0 1 = cc in omega arith)
    go (Err x) q z =
        let y : x.number ≡ r.number = cc in
        omega (arith, y, first_numbered (alone_checks b) (alone_numbered b) x q)

-- ---- sound by itself

pub record SoundAlone (b : List ℕ) : Type 0 where
  pub size : length b ≡ 512
  pub sums : sums_agree b ≡ true
  pub shape : shaped (origin_of b).form b ≡ true
  pub fields : Pass (fields_of (own_tables b))
  pub account : named (origin_of b).form (origin_of b).account ≡ true

pub sound_is : (b : List ℕ) → first_of (alone_checks b) ≡ Ok tt → SoundAlone b
unfolding alone_checks
sound_is b e =
    let p = clear (alone_checks b) e in
    let fields = fields_of (own_tables b) in
    let last = ask (named (origin_of b).form (origin_of b).account) 20 0 0 ∷ [] in
    record {
      size = eqb-true (length b) 512 p.0;
      sums = p.1.0;
      shape = p.1.1.0;
      fields = pass_left fields last p.1.1.1;
      account = (pass_right fields last p.1.1.1).0;
    }

pub is_sound : (b : List ℕ) → SoundAlone b → alone_call b ≡ Ok (origin_of b)
is_sound b s = alone_sound b s.size s.sums s.shape (unclear (fields_of (own_tables b)) s.fields) s.account

pub sound_sized : (b : List ℕ) → SoundAlone b → Sized b
sound_sized b s = shaped_sized b s.size s.shape

-- ---- each block of a file that the reader takes

abbrev pub SoundOf : Origin → List ℕ → Type 0
SoundOf o b = SoundAlone b × (origin_of b ≡ o)

block_sound : (F : Frame) (i : ℕ) (following limits : Bool) (b : List ℕ) → Passed F i following limits b → length b ≡ 512
    → ((kind : Kind) → GoodRecords kind (records_as kind b)) → SoundOf F.origin b
block_sound F i following limits b ok size good =
    let o = F.origin in
    let q = origin_is o b ok.shape ok.account in
    let a = account_is o b ok.account in (
      record {
        size = size;
        sums = ok.sums;
        shape = rw q ok.shape;
        fields = good_pass (own_tables b) (λ kind. rw (own_records kind b) (good kind));
        account = rw q (rw a.1 at a.0);
      },
      q,
    )

blocks_sound : (F : Frame) (before bs : List (List ℕ)) → Pass (blocks_checks F before bs) → All (λ b. length b ≡ 512) bs
    → ((kind : Kind) → All (λ b. GoodRecords kind (records_as kind b)) bs) → All (SoundOf F.origin) bs
unfolding blocks_checks
blocks_sound F before [] p l good = tt
blocks_sound F before (b ∷ bs) p l good =
    let this = block_checks F before b in
    let rest = blocks_checks F (b ∷ before) bs in (
      block_sound F (length before) _ _ b (block_passed F before b (pass_left this rest p)) l.0 (λ kind. (good kind).0),
      blocks_sound F (b ∷ before) bs (pass_right this rest p) l.1 (λ kind. (good kind).1),
    )

pub file_sound : (f : List ℕ) → Reads f → All (SoundOf (origin_in f)) (blocks_of f)
unfolding tables_in
file_sound f r =
    let bs = blocks_of f in
    let good = read_good f r in
    let sizes = whole_file_lem (length f) good.whole in
    blocks_sound (frame_in f) [] bs good.blocks (chunks_whole 512 (length f / 512) f (omega (arith, sizes)))
    (λ kind. good_parts kind bs good.sized (rw (table_of_lem kind bs) at (pass_good (tables_in f) (read_both f r).1 kind)))

pub read_are_sound : ReadAreSound
read_are_sound f r = all_map (blocks_of f) (λ b s. is_sound b s.0 ∙ ap Ok s.1) (file_sound f r)
