-- Sources of some seeds, as a program in another language gave them.
use Rattle.std.proofs.Common.{◌≡◌, [], ◌-◌, ◌^◌, length, refl, codes}
use Rattle.mt_samples.specs.Generator.{formula, generated, state_after_formula, template}

none : generated 0 0 ≡ []
unfolding generated
none = refl

three : generated 0 3 ≡ codes "$$\\sum_m^p{y\\over b+v}$$\n$\\hat t^2\\mathchoice{c}{b}{x}{g}$\n$$\\sum_h^y{y\\over r+m}$$\n"
unfolding generated formula state_after_formula template
three = refl

accent : generated 1 1 ≡ codes "$\\hat d^2\\mathchoice{m}{s}{k}{d}$\n"
unfolding generated formula state_after_formula template
accent = refl

greatest : generated (2 ^ 64 - 1) 2 ≡ codes "$$\\left({t^2\\over r}\\right)\\sqrt{e+1}$$\n$\\hat n^2\\mathchoice{v}{b}{k}{q}$\n"
unfolding generated formula state_after_formula template
greatest = refl

page : generated 7 20 ≡ codes "$$\\left({f^2\\over x}\\right)\\sqrt{h+1}$$\n$z+g=i$\n$\\hat y^2\\mathchoice{l}{p}{w}{e}$\n$\\hat k^2\\mathchoice{d}{v}{i}{r}$\n$l_q^2-s_f^3$\n$\\hat g^2\\mathchoice{r}{j}{a}{y}$\n$$\\sum_a^d{f\\over t+n}$$\n$$\\sum_e^w{z\\over f+w}$$\n$y+a=y$\n$\\hat e^2\\mathchoice{u}{y}{i}{t}$\n$$\\left({m^2\\over t}\\right)\\sqrt{a+1}$$\n$c_v^2-p_h^3$\n$$\\left({u^2\\over l}\\right)\\sqrt{j+1}$$\n$d+m=a$\n$a_o^2-d_s^3$\n$u+p=o$\n$\\hat e^2\\mathchoice{v}{s}{w}{t}$\n$\\hat s^2\\mathchoice{z}{x}{f}{j}$\n$j_o^2-o_y^3$\n$g+j=r$\n\\eject\n"
unfolding generated formula state_after_formula template
page = refl

hundred : length (generated 7 100) ≡ 2488
unfolding generated formula state_after_formula template
hundred = refl
