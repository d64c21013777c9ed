use Rattle.std.proofs.Common.{◌≡◌, [], ◌∷◌, false, sym, subst, rules}
use Rattle.tri_atlas.specs.Paths.{moves_of}
use Rattle.multicurve_cert.specs.inside.Images.{AreImages}
use Rattle.multicurve_cert.proofs.ImageList.{images_start}
use Rattle.multicurve_cert.proofs.images.Images.new.Goals as goal

pub returns-clause-images : goal.returns-clause-images
returns-clause-images c =
    let pushed : c.push.new.self.items ≡ c.args.vector ∷ [] = search rules in
    subst (AreImages c.args.atlas.now (moves_of c.args.atlas.now c.args.word.now) false) (sym pushed)
    (images_start c.args.atlas.now _ c.power_laws.ensures c.args.vector
    (record { coordinates = c.requires.coordinates; base = c.requires.base }))
