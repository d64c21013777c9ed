-- A relabelling pushed and read backwards, and its inverse pushed.
use Rattle.std.proofs.Common.{◌∙◌, ℕ, ℤ, List, sym, ap}
use Rattle.ideal_tri.specs.Relabellings.{inverse_images}
use Rattle.tri_atlas.specs.Moves.{back_of}
use Rattle.tri_atlas.specs.Arena.{Arena, MoveHandle, IsArena, Grows, back}
use Rattle.tri_atlas.specs.AtlasLaws.{AtlasLaws}
use Rattle.relabel.specs.Pushed.{IsPushed}
use Rattle.relabel.specs.PushLaws.{DoTheSame, PushLaws}

pushed_back : AtlasLaws → (before after later latest arena : Arena) (from to : ℕ) (images : List ℤ) (m n : MoveHandle)
    → IsArena arena → IsPushed before after from to images m → Grows after arena
    → IsPushed later latest to from (inverse_images images) n → Grows latest arena → DoTheSame arena (back m) n
pushed_back laws before after later latest arena from to images m n h p g q k = record {
  source =
      laws.handles.back_source arena m ∙ laws.growth.target after arena m g p.here ∙ p.target
      ∙ sym (laws.growth.source latest arena n k q.here ∙ q.source);
  target =
      laws.handles.back_target arena m ∙ laws.growth.source after arena m g p.here ∙ p.source
      ∙ sym (laws.growth.target latest arena n k q.here ∙ q.target);
  step =
      laws.handles.back arena m h (laws.growth.move_in after arena m g p.here)
      ∙ ap back_of (laws.growth.step after arena m g p.here ∙ p.step)
      ∙ sym (laws.growth.step latest arena n k q.here ∙ q.step);
}

pub push_laws : AtlasLaws → PushLaws
push_laws laws = record { back = pushed_back laws }
