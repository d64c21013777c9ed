use Rattle.std.proofs.Common.{refl}
use Rattle.free_groupoid.proofs.Substituting.{substitution-odd}
use Rattle.free_groupoid.proofs.MapsIn.{followed_in, composed_in, identity_in, image_on}
use Rattle.free_groupoid.proofs.Along.{followed_letter, along_letter, along_triangle, along_in, along_source}
use Rattle.free_groupoid.proofs.Along.{along_target, followed_along-append, StaysWithin-append}
use Rattle.free_groupoid.proofs.Undone.{there_and_back}
use Rattle.free_groupoid.proofs.Composing.{composed_letter, composed_walk, path_letter, path_after}
use Rattle.free_groupoid.specs.GroupoidLaws.{MakingLaws, ImageLaws, ActionLaws, AlongLaws}
use Rattle.free_groupoid.proofs.laws.groupoid_laws.Goals as goal

pub returns : goal.returns
returns c =
    let labels = c.label_laws.ensures in
    let words = c.word_laws.ensures in
    let surface = c.surface_laws.ensures in
    let mapping = c.map_laws.ensures in
    let atlas = c.atlas_laws.ensures in
    let making : MakingLaws = record {
      identity = λ arena t sound. identity_in labels words surface mapping atlas arena sound t;
      followed = λ arena f m sound. followed_in labels words surface mapping atlas arena sound f m;
      along = λ arena f path sound h p. along_in labels words surface mapping atlas arena f path.start path.end
          path.moves sound h p.moves_lead;
      composed = λ arena f g sound. composed_in labels words surface mapping atlas arena sound f g;
      walks = λ arena f w sound. image_on labels words surface mapping atlas arena sound f w;
    } in
    let images : ImageLaws = record {
      odd = substitution-odd words.inverses;
      followed = followed_letter labels words surface mapping atlas;
      along = λ arena f moves x h. along_letter labels words surface mapping atlas arena f moves x h.reduced;
      triangles = along_triangle labels words surface mapping atlas;
      path = λ arena path x sound. path_letter labels words surface mapping atlas arena sound path x;
      composed = composed_letter labels words surface mapping atlas;
    } in
    let action : ActionLaws = record {
      one_after_another = λ arena f g w sound h k follows. composed_walk labels words surface mapping atlas arena f g w
          h;
      path_behind = λ arena f path sound. path_after labels words surface mapping atlas arena sound f path;
      there_and_back = λ arena f path sound h p follows.
          there_and_back labels words surface mapping atlas arena sound f path.start path.end path.moves h p.moves_lead
          follows;
    } in
    let along : AlongLaws = record {
      along = followed_along-append labels words surface mapping atlas;
      within = StaysWithin-append;
      source = along_source labels words surface mapping atlas;
      target = λ arena f moves t lead. along_target labels words surface mapping atlas arena f f.target t moves lead
          refl;
    } in
    record { making = making; images = images; action = action; along = along }
