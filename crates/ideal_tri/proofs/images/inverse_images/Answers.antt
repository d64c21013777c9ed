use Rattle.std.proofs.Common.{rules, arith, ◌≡◌, ◌+◌, ◌∙◌, ℕ, ℤ, List, pos, ap, ap₂, sym, subst, length, take, set}
use Rattle.std.proofs.Common.{get_or}
use Rattle.std.proofs.lemmas.List.{length-take-le, get_or-take, get_or_default}
use Rattle.ideal_tri.specs.Labels.{edge_of, with_sign_of}
use Rattle.ideal_tri.proofs.WrittenImages.{AreWritten, none_written, written_more, all_written}
use Rattle.ideal_tri.proofs.images.inverse_images.Goals as goal

pub loop-n-init : goal.loop-n-init
loop-n-init c = none_written (take c.args.edges c.args.images.now) c.new-inverse.result c.new-inverse.ensures

pub loop-n-preserved : goal.loop-n-preserved
loop-n-preserved c =
    let images = take c.args.edges c.args.images.now in
    let n = c.loop-n.n in
    let long : length (take c.args.edges c.args.images.now) ≡ c.args.edges =
    length-take-le c.args.edges c.args.images.now (omega (arith, c.told-images)) in
    let image_is : get_or c.args.images.now n c.index-images-n.result ≡ get_or images n (pos 0) =
    get_or_default c.args.images.now n c.index-images-n.result (pos 0) (omega arith)
    ∙ sym (get_or-take c.args.edges c.args.images.now n (pos 0) (omega arith)) in
    let x_is : c.new.result ≡ pos n = search rules in
    let at : c.edge.result ≡ edge_of (get_or images n (pos 0)) = c.edge.ensures ∙ ap edge_of image_is in
    let value : c.with_sign_of.result ≡ with_sign_of (get_or images n (pos 0)) (pos n) =
    c.with_sign_of.ensures.value ∙ ap₂ (λ (x : ℤ) (y : ℤ). with_sign_of x y) image_is x_is in
    subst (λ (slots : List ℤ). AreWritten images slots (n + 1))
    (sym (ap₂ (λ (k : ℕ) (x : ℤ). set c.loop-n.inverse k x) at value))
    (written_more images c.loop-n.inverse n c.requires.bijection (omega arith) (omega arith) c.loop-n.invariant)

pub returns-clause-images : goal.returns-clause-images
returns-clause-images c =
    let long : length (take c.args.edges c.args.images.now) ≡ c.args.edges =
    length-take-le c.args.edges c.args.images.now (omega (arith, c.told-images)) in
    ap (λ (n : ℕ). take n c.loop-n.inverse) (sym long)
    ∙ all_written (take c.args.edges c.args.images.now) c.loop-n.inverse c.requires.bijection (omega arith)
    (subst (AreWritten (take c.args.edges c.args.images.now) c.loop-n.inverse) (omega arith) c.loop-n.invariant)
