use Rattle.std.proofs.Common.{refl}
use Rattle.std.proofs.lemmas.Bool.Decides.{not_from_Decides}
use Rattle.rendering.specs.Render.{render}
use Rattle.rendering.specs.Tables.{table_of}
use Rattle.sift.specs.Memory.{contents}
use Rattle.listing.proofs.Decided.{table_shows}
use Rattle.listing.proofs.listing.listing.Goals as goal

pub returns : goal.returns
returns g c =
    let key = g.L.Legend.key c.args.legend.now in
    let after = contents c.sift.new.memory in
    let ran = c.in_ok-sift.ensures.sifted in
    let t = table_of key after.flow after.verdicts in
    record {
      lent = c.in_ok-sift.ensures.lent;
      lists = record {
        enough = not_from_Decides _ c.is_short.ensures c.if-is_short.false;
        sifted = ran;
        bytes = render (g.B.Labels.labelled c.args.labels.now) t;
        lists = record {
          matching = c.matches.ensures.0 c.if-not-matches.false;
          table = t;
          shows = table_shows (g.L.Network.meaning c.args.legend.now) after ran.answer key (g.met.L.Legend.keyed c.args.legend.now);
          text = refl;
        };
        placed = c.put_shown.ensures;
      };
    }
