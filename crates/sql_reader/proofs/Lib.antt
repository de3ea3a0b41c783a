mod InsideLaws
