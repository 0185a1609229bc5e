-- The order of the answers and of the reads.
use Rattle.std.specs.Prelude.{◌≡◌, ◌⊎◌, ℕ, ◌<◌, ◌++◌, List, [], ◌∷◌, Option, Some, false, map}
use Rattle.pac_ports.specs.Faults.{Rose}
use Rattle.pac_ports.specs.Files.{FilesTold, Read, content_of}
use Rattle.pac_ports.specs.Sink.{SinkState}
use Rattle.pac_plan.specs.Plan.{Outside, Plan, say, run, read, talk}
use Rattle.pac_plan.specs.Complete.{Contents, by_content}
use Rattle.pac_plan.specs.declared.status.Status.{Status}
use Rattle.pac_plan.specs.declared.status.Status.TheVariants as status

-- the names that the plan reads at these contents, in order
abbrev pub names_at : {T : Type 0} → Plan T → Contents → List (List ℕ)
names_at (say answer) c = []
names_at (run plan) c = names_at plan c
names_at (read kind name next) c = name ∷ by_content [] [] (λ bytes. names_at (next bytes) c) (content_of name c)
names_at (talk t answer) c = []

abbrev pub name_of : Read → List ℕ
name_of r = r.name

-- none but the last failed
abbrev pub FailsAtTheLast : List Read → Type 0
FailsAtTheLast [] = Unit {0}
FailsAtTheLast (r ∷ []) = Unit {0}
FailsAtTheLast (r ∷ s ∷ rs) = (r.failed ≡ false) × FailsAtTheLast (s ∷ rs)

-- the files told these and now tell reads more, of names from the front of a list, each once
pub record ReadsInTurn (names : List (List ℕ)) (told : FilesTold) (now : Option FilesTold) : Type 0 where
  pub reads : List Read
  pub now_told : now ≡ Some (record told { reads = told.reads ++ reads })
  -- the names of the list that were not read
  pub left : List (List ℕ)
  pub front : map name_of reads ++ left ≡ names
  pub last : FailsAtTheLast reads

-- Where the sink's count rose, the answer is WriteFault. Where it neither rose nor stands at its last number and the
-- files' rose, it is ReadFault, and where neither of both did and the link's rose, LinkFault; or memory ran out.
pub record KeepsOrder {T : Type 0} (plan : Plan T) (old new : Outside) (out out' : SinkState) (given : Status) : Type 0 where
  pub sink : out.faults < out'.faults → given ≡ status.WriteFault
  pub files : old.files.faults < new.files.faults → (Rose out.faults out'.faults → ⊥) → (given ≡ status.ReadFault) ⊎ (given ≡ status.Memory)
  pub link : old.link.faults < new.link.faults → (Rose out.faults out'.faults → ⊥) → (Rose old.files.faults new.files.faults → ⊥) → (given ≡ status.LinkFault) ⊎ (given ≡ status.Memory)
  -- where the files tell
  pub reads : (told : FilesTold) → old.files.told ≡ Some told → ReadsInTurn (names_at plan told.contents) told new.files.told
