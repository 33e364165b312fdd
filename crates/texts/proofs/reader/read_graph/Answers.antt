use Rattle.texts.proofs.Exactly.{exact, blames}
use Rattle.texts.proofs.reader.read_graph.Goals as goal

pub returns : goal.returns
returns g c =
    let form = g.L.Label.form in
    let faithful = g.met.L.Label.faithful in
    record {
      reads = c.read_lines.ensures;
      exact =
          exact form faithful c.args.number c.args.text.now c.args.vertices.now c.args.ties.now c.read_lines.new.vertices c.read_lines.new.ties
          c.read_lines.result c.read_lines.ensures;
      blames =
          blames form faithful c.args.number c.args.text.now c.args.vertices.now c.args.ties.now c.read_lines.new.vertices c.read_lines.new.ties
          c.read_lines.result c.read_lines.ensures;
    }
