use Rattle.std.proofs.Common.{List, Vec, ℕ, ℤ, IfErr, subst, sym}
use Rattle.std.specs.Global.{Global}
use Rattle.std.proofs.lemmas.List.{length-map}
use Rattle.tri_atlas.specs.Arena.{triangulation}
use Rattle.free_groupoid.specs.GroupoidMaps.{substitution, vertex_image}
use Rattle.train_track.specs.Branches.{words_of}
use Rattle.cert_text.specs.Certificates.{track_seen}
use Rattle.cert_checker.specs.TrackRefusals.{IsGrowthRefusal}
use Rattle.cert_checker.specs.inside.Stops.{IsStop, IsRule}
use Rattle.cert_checker.specs.inside.TrackParts.{CanBePassed}
use Rattle.cert_checker.proofs.ConnectedAnchors.{anchors_connected}
use Rattle.cert_checker.proofs.HandedOn.{all_on_ok, handed_on}
use Rattle.cert_checker.proofs.RowsJoined.{square}
use Rattle.cert_checker.proofs.Stopped.{refused_so}
use Rattle.cert_checker.proofs.TrackJoined.{can_be_passed, held, refused_anchors, refused_growth, refused_images}
use Rattle.cert_checker.proofs.TrackJoined.{refused_matrix}
use Rattle.cert_checker.proofs.tracks.check_carrying.Goals as goal

pub returns-in_err-check_anchors-clause-refused : goal.returns-in_err-check_anchors-clause-refused
returns-in_err-check_anchors-clause-refused c = λ moves site.
    handed_on _ _
    (refused_anchors c.track_laws.ensures c.agreement_laws.ensures c.args.atlas.now moves (track_seen c.args.c.now)
    c.args.site.now (c.base.ensures.sound.sound c.args.site.now.track.tri c.requires.here.here.tri) site)
    c.from_residual.result c.in_err-check_anchors.field-0.0 c.from_residual.ensures.1
    (rw c.deref.ensures.value at c.in_err-check_anchors.ensures.refused)

pub check_images-requires-clause-connected : goal.check_images-requires-clause-connected
check_images-requires-clause-connected c =
    anchors_connected (triangulation c.args.atlas.now c.args.site.now.track.tri) c.args.site.now.track.left_out
    (vertex_image c.args.site.now.map) (track_seen c.args.c.now)
    (rw c.deref.ensures.value at c.in_ok-check_anchors.ensures.held)

pub returns-in_err-check_images-clause-refused : goal.returns-in_err-check_images-clause-refused
returns-in_err-check_images-clause-refused c = λ moves site.
    handed_on _ _
    (refused_images c.track_laws.ensures c.agreement_laws.ensures c.args.atlas.now moves (track_seen c.args.c.now)
    c.args.site.now (c.base.ensures.sound.sound c.args.site.now.track.tri c.requires.here.here.tri) site
    (rw c.deref.ensures.value at c.in_ok-check_anchors.ensures.held))
    c.from_residual-in_err-check_images.result c.in_err-check_images.field-0.0
    c.from_residual-in_err-check_images.ensures.1 c.in_err-check_images.ensures.refused

pub check_matrix-requires : goal.check_matrix-requires
check_matrix-requires c =
    subst (λ (ts : List (List ℤ)). CanBePassed ts c.args.site.now.track (track_seen c.args.c.now))
    (sym c.tri-tri.ensures.value)
    (subst
    (λ (t : ℕ). CanBePassed (triangulation c.args.atlas.now t) c.args.site.now.track (track_seen c.args.c.now))
    (sym c.tri.ensures)
    (can_be_passed (triangulation c.args.atlas.now c.args.site.now.track.tri) c.args.site.now.track
    (track_seen c.args.c.now) (vertex_image c.args.site.now.map) (substitution c.args.site.now.map.images)
    (c.base.ensures.sound.sound c.args.site.now.track.tri c.requires.here.here.tri) c.requires.here.here.on
    (rw c.deref.ensures.value at c.in_ok-check_anchors.ensures.held) c.in_ok-check_images.ensures.held))

pub returns-in_err-check_matrix-clause-refused : goal.returns-in_err-check_matrix-clause-refused
returns-in_err-check_matrix-clause-refused c = λ moves site.
    handed_on _ _
    (refused_matrix c.track_laws.ensures c.agreement_laws.ensures c.args.atlas.now moves (track_seen c.args.c.now)
    c.args.site.now (c.base.ensures.sound.sound c.args.site.now.track.tri c.requires.here.here.tri) site
    (rw c.deref.ensures.value at c.in_ok-check_anchors.ensures.held) c.in_ok-check_images.ensures.held)
    c.from_residual-in_err-check_matrix.result c.in_err-check_matrix.field-0.0
    c.from_residual-in_err-check_matrix.ensures.1 c.in_err-check_matrix.ensures.refused

pub check_growth-requires : goal.check_growth-requires
check_growth-requires c =
    square (words_of c.args.site.now.track.branches) (track_seen c.args.c.now) c.in_ok-check_matrix.ensures.held

pub returns-clause-held : goal.returns-clause-held
returns-clause-held c = λ moves site.
    all_on_ok c.check_growth.result
    (held c.track_laws.ensures c.agreement_laws.ensures c.args.atlas.now moves (track_seen c.args.c.now)
    c.args.site.now (c.base.ensures.sound.sound c.args.site.now.track.tri c.requires.here.here.tri) site
    (rw c.deref.ensures.value at c.in_ok-check_anchors.ensures.held)
    c.in_ok-check_images.ensures.held c.in_ok-check_matrix.ensures.held)
    c.check_growth.ensures.held

pub returns-clause-refused : goal.returns-clause-refused
returns-clause-refused c = λ moves site.
    refused_so _ _
    (refused_growth c.track_laws.ensures c.agreement_laws.ensures c.args.atlas.now moves (track_seen c.args.c.now)
    c.args.site.now (c.base.ensures.sound.sound c.args.site.now.track.tri c.requires.here.here.tri) site
    (rw c.deref.ensures.value at c.in_ok-check_anchors.ensures.held)
    c.in_ok-check_images.ensures.held c.in_ok-check_matrix.ensures.held)
    c.check_growth.result
    (subst
    (λ (n : ℕ). IfErr c.check_growth.result (IsStop (IsRule 18 (IsGrowthRefusal n (track_seen c.args.c.now)))))
    (sym (length-map c.args.c.now.matrix.items (λ (row : Vec ℕ Global). row.items))) c.check_growth.ensures.refused)
