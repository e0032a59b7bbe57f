mod OneChange
